use Rattle.std.proofs.Common.{sym}
use Rattle.logarithm.specs.Worker.{after}
use Rattle.logarithm.proofs.Gathered.{lg-worker}
use Rattle.logarithm.proofs.Laws.{ready-after, round-after}
use Rattle.logarithm.proofs.numbers.U64Numbers.start.Goals as goal

pub returns-clause-begun : goal.returns-clause-begun
unfolding after
returns-clause-begun c = c.start.ensures

pub returns-clause-can : goal.returns-clause-can
returns-clause-can c = λ n l. ready-after c.args.self n c.requires l

pub returns-clause-more : goal.returns-clause-more
returns-clause-more c = round-after c.args.self

pub returns-clause-done : goal.returns-clause-done
returns-clause-done c = sym (lg-worker c.args.self)
