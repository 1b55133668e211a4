-- The first line and the entries passed are printed. Assumes nothing.
use Rattle.std.proofs.Common.{◌≡◌, ◌+◌, ◌*◌, ◌++◌, take}
use mathlib.Core.List.{flat_map, ◌∷◌, []}
use lib.ListN.{length}
use Rattle.lists.specs.Lists.{over}
use Rattle.swatch.specs.Output.{printed_line, printed_entry}
use Rattle.swatch.proofs.printing.print_card.Given as goal

abbrev pub invariant-loop-entry : goal.invariant-loop-entry
invariant-loop-entry l = (l.len ≡ 19 + 49 * l.entry-index) × (l.out ≡ over (printed_line (length l.entries ∷ l.pixels ∷ l.closeness ∷ []) ++ flat_map printed_entry (take l.entry-index l.entries)) l.fn.out)
