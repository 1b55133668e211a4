-- A member more has moved.
use Rattle.std.proofs.Common.{arith}
use Rattle.lists.proofs.Shifts.{shift-more}
use Rattle.segmentation.proofs.joins.shift.Goals as goal

pub loop-k-preserved : goal.loop-k-preserved
loop-k-preserved c =
    let a = c.args in
    let l = c.loop-k in
    rw l.invariant (shift-more a.a.now a.to a.from l.k 0 (omega (arith, c.requires)) (omega (arith, c.requires, c.loop-k-test.true)))
