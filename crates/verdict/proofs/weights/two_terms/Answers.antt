use Rattle.std.proofs.Common.{ℕ, ◌+◌, ◌*◌, ◌^◌, ◌≤◌, ◌<◌, arith}
use Rattle.logarithm.specs.Log.{Loggable, lg}
use Rattle.pooling.specs.Limits.{most_counts}
use Rattle.verdict.proofs.Sizes.{term-small}
use Rattle.verdict.proofs.weights.two_terms.Goals as goal

-- the products and their sum are small
sum-small : (k rest x y : ℕ) → k + rest ≤ most_counts → Loggable x → Loggable y → k * lg x + rest * lg y < 2 ^ 63
sum-small k rest x y l u v = omega (arith, term-small k x u, term-small rest y v)

pub overflow_mul-k : goal.overflow_mul-k
overflow_mul-k c = rw c.lg-lg_p.ensures (omega (arith, sum-small c.args.k c.args.rest c.args.p c.args.s c.requires.0 c.requires.1 c.requires.3))

pub overflow_mul-rest : goal.overflow_mul-rest
overflow_mul-rest c = rw c.lg-lg_p.ensures (omega (arith, sum-small c.args.k c.args.rest c.args.p c.args.s c.requires.0 c.requires.1 c.requires.3))

pub overflow_add-k : goal.overflow_add-k
overflow_add-k c = rw c.lg-lg_p.ensures (omega (arith, sum-small c.args.k c.args.rest c.args.p c.args.s c.requires.0 c.requires.1 c.requires.3))

pub overflow_mul-k-2 : goal.overflow_mul-k-2
overflow_mul-k-2 c = rw c.lg-lg_p.ensures (omega (arith, sum-small c.args.k c.args.rest c.args.q c.args.t c.requires.0 c.requires.2 c.requires.4))

pub overflow_mul-rest-2 : goal.overflow_mul-rest-2
overflow_mul-rest-2 c = rw c.lg-lg_p.ensures (omega (arith, sum-small c.args.k c.args.rest c.args.q c.args.t c.requires.0 c.requires.2 c.requires.4))

pub overflow_add-k-2 : goal.overflow_add-k-2
overflow_add-k-2 c = rw c.lg-lg_p.ensures (omega (arith, sum-small c.args.k c.args.rest c.args.q c.args.t c.requires.0 c.requires.2 c.requires.4))

pub difference-requires : goal.difference-requires
difference-requires c =
    rw c.lg-lg_p.ensures (
      omega (arith, sum-small c.args.k c.args.rest c.args.p c.args.s c.requires.0 c.requires.1 c.requires.3),
      omega (arith, sum-small c.args.k c.args.rest c.args.q c.args.t c.requires.0 c.requires.2 c.requires.4),
    )
