use Rattle.std.proofs.Common.{arith}
use Rattle.logarithm.proofs.Laws.{start-shift, zeros-range}
use Rattle.logarithm.proofs.Logarithm.start.Goals as goal

pub overflow_sub-result : goal.overflow_sub-result
overflow_sub-result c = omega (arith, zeros-range c.args.x c.requires)

pub returns : goal.returns
returns c = rw c.from.ensures (start-shift c.args.x c.requires)
