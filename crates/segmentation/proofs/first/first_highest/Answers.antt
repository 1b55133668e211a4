-- A higher bin is the first highest from there on; at an equal one the first stays. Assumes nothing.
use Rattle.std.proofs.Common.{◌∙◌, arith}
use Rattle.segmentation.proofs.FirstHeld.{highest-first, highest-higher, highest-kept}
use Rattle.segmentation.proofs.first.first_highest.Goals as goal
use Rattle.segmentation.proofs.first.first_highest.Goals.{then-h-best, else-h-best}

pub loop-i-init : goal.loop-i-init
loop-i-init c = record { below = omega arith; highest = highest-first c.args.h.now c.args.start }

pub loop-i-preserved : goal.loop-i-preserved
loop-i-preserved c =
    let l = c.loop-i in
    elim c.if-h-best.branch [
      | then-h-best w ↦ record { below = omega (arith, w.best-is); highest = w.best-is ∙ highest-higher c.args.h.now c.args.start l.i l.best (omega arith) l.invariant.highest w.if-h-best.true }
      | else-h-best w ↦ record { below = omega (arith, w.best-is); highest = w.best-is ∙ highest-kept c.args.h.now c.args.start l.i l.best (omega arith) l.invariant.highest w.if-h-best.false }
    ]
