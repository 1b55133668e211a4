-- A bin more is that of the two turns.
use Rattle.std.proofs.Common.{◌∙◌, List, ℕ, ap, sym, arith}
use Rattle.std.proofs.Math.Seq.{take_all}
use Rattle.lists.specs.Lists.{over}
use Rattle.lists.proofs.Buffers.{over_none}
use Rattle.segmentation.specs.Ring.{two_turns}
use Rattle.segmentation.proofs.RingPlaces.{opening-in}
use Rattle.segmentation.proofs.TwoTurns.{turns-length, turns_more}
use Rattle.rings.proofs.turns.write_turns.Goals as goal

pub loop-i-init : goal.loop-i-init
loop-i-init c = sym (over_none c.args.round.now)

pub overflow_add-round : goal.overflow_add-round
overflow_add-round c = omega (arith, opening-in c.args.h.now c.requires.in_bounds.0, c.requires, c.loop-i-test.true)

pub loop-i-preserved : goal.loop-i-preserved
loop-i-preserved c = rw (c.loop-i.invariant, c.requires.first_value) (turns_more c.args.h.now c.args.round.now c.loop-i.i c.requires.in_bounds.0 (omega (arith, c.loop-i-test.true)) (omega (arith, c.requires, c.loop-i-test.true)))

pub returns : goal.returns
returns c =
    let h = c.args.h.now in
    c.loop-i.invariant ∙ ap (λ (ys : List ℕ). over ys c.args.round.now) (take_all c.loop-i.i (two_turns h) (omega (arith, turns-length h c.requires.in_bounds.0, c.loop-i-test.false)))
