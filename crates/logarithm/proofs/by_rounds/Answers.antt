use Rattle.std.proofs.Common.{◌≡◌, sym, subst, arith}
use Rattle.logarithm.specs.Log.{round_count}
use Rattle.logarithm.proofs.by_rounds.Goals as goal

pub round-workers-requires : goal.round-workers-requires
unfolding round_count
round-workers-requires g c = subst g.X.Numbers.ready (sym c.loop.invariant) (c.start-workers.ensures.can c.loop.counter (omega arith))

pub returns : goal.returns
unfolding round_count
returns g c =
    let all : c.loop.counter ≡ round_count = omega arith in
    rw (c.bits.ensures, c.loop.invariant, all) c.start-workers.ensures.done
