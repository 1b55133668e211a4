-- Of the bins that were looked at, `lowest` is the first lowest.
use Rattle.std.proofs.Common.{◌≡◌, ◌-◌, ◌<◌, get_or, pos}
use Rattle.lists.specs.Lists.{first_lowest}
use Rattle.rings.proofs.turns.lowest_bin.Given as goal

abbrev pub invariant-loop-i : goal.invariant-loop-i
invariant-loop-i l = (l.lowest < l.i) × (l.lowest ≡ first_lowest (l.i - 1) (λ k. pos (get_or l.h k 0)))
