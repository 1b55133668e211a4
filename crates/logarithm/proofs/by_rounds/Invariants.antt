-- So many rounds are done. Assumes nothing.
use Rattle.std.proofs.Common.{◌≡◌}
use Rattle.logarithm.proofs.by_rounds.Given as goal

abbrev pub invariant-loop : goal.invariant-loop
invariant-loop g l = l.workers ≡ g.X.Numbers.after l.counter l.fn.x
