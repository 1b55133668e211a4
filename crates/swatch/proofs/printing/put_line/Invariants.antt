-- The fields of the values passed are written. Assumes nothing.
use Rattle.std.proofs.Common.{◌≡◌, ◌*◌, take}
use mathlib.Core.List.{flat_map}
use Rattle.lists.specs.Lists.{over}
use Rattle.swatch.specs.Output.{printed_field}
use Rattle.swatch.proofs.printing.put_line.Given as goal

abbrev pub invariant-loop-value : goal.invariant-loop-value
invariant-loop-value l = (l.len ≡ 6 * l.value-index) × (l.out ≡ over (flat_map printed_field (take l.value-index l.values)) l.initial.out)
