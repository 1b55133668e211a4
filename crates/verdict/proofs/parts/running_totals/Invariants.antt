-- The sum is that of the bins passed, and stands behind each of them.
use Rattle.std.proofs.Common.{◌≡◌, take}
use Rattle.lists.specs.Lists.{total}
use Rattle.verdict.proofs.Scratch.{Filled}
use Rattle.verdict.proofs.parts.running_totals.Given as goal

abbrev pub invariant-loop-i : goal.invariant-loop-i
invariant-loop-i l = (l.sum ≡ total (take l.i l.h)) × Filled l.h l.before l.i
