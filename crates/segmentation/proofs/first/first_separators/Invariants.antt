-- The separators found are those of the bins up to i, but for the place where the bins last fell. Assumes nothing.
use Rattle.std.proofs.Common.{◌+◌, ◌≤◌, take, IfSome}
use Rattle.segmentation.proofs.Walking.{Walked}
use Rattle.segmentation.proofs.first.first_separators.Given as goal

abbrev pub invariant-loop-i : goal.invariant-loop-i
invariant-loop-i l = record { few : l.n ≤ l.i + 1; fell_before : IfSome l.fell (λ bin. bin ≤ l.i); walked : Walked l.h l.i (take l.n l.separators) l.fell }
