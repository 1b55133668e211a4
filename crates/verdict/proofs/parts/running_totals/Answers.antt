-- Each bin adds its count, and the sum goes behind it.
use Rattle.std.proofs.Common.{refl, sym, arith, ◌<◌, length}
use Rattle.lists.proofs.Sums.{total-more, total-at}
use Rattle.verdict.proofs.Scratch.{filled_none, filled_more}
use Rattle.verdict.proofs.parts.running_totals.Goals as goal

pub loop-i-init : goal.loop-i-init
loop-i-init c = (refl, filled_none c.args.h.now c.args.before.now (omega arith))

pub overflow_add-sum : goal.overflow_add-sum
overflow_add-sum c =
    let l : c.loop-i.i < length c.args.h.now = omega arith in
    omega (arith, total-at c.args.h.now c.loop-i.i l)

pub loop-i-preserved : goal.loop-i-preserved
loop-i-preserved c =
    let l : c.loop-i.i < length c.args.h.now = omega arith in
    (rw c.loop-i.invariant.0 (sym (total-more c.args.h.now c.loop-i.i l)), filled_more c.args.h.now c.loop-i.before c.loop-i.i c.loop-i.sum l (omega arith) c.loop-i.invariant.0 c.loop-i.invariant.1)

pub returns : goal.returns
returns c k b = c.loop-i.invariant.1 k (omega arith)
