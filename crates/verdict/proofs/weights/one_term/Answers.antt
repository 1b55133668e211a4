use Rattle.std.proofs.Common.{arith}
use Rattle.verdict.proofs.Sizes.{term-small}
use Rattle.verdict.proofs.weights.one_term.Goals as goal

pub overflow_mul-n : goal.overflow_mul-n
overflow_mul-n c = rw c.lg-lg_p.ensures (omega (arith, term-small c.args.n c.args.p c.requires.1))

pub overflow_mul-n-2 : goal.overflow_mul-n-2
overflow_mul-n-2 c = rw c.lg-lg_p.ensures (omega (arith, term-small c.args.n c.args.q c.requires.2))

pub difference-requires : goal.difference-requires
difference-requires c =
    rw c.lg-lg_p.ensures
    (omega (arith, term-small c.args.n c.args.p c.requires.1), omega (arith, term-small c.args.n c.args.q c.requires.2))
