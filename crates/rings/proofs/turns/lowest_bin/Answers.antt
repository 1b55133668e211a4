-- One bin more is looked at, and at the end all are.
use Rattle.std.proofs.Common.{Bool, cond, ℕ, ◌≡◌, ◌-◌, length, get_or, pos, sym, ap, ◌∙◌, arith}
use borrow.Author.Tests.{lt-ltb, le-ltb}
use Rattle.lists.specs.Lists.{first_lowest}
use Rattle.lists.proofs.Lowest.{lowest-none, lowest-more}
use Rattle.segmentation.specs.Ring.{opening}
use Rattle.rings.proofs.turns.lowest_bin.Goals as goal
use Rattle.rings.proofs.turns.lowest_bin.Goals.{then-h-i, else-h-i}

pub loop-i-init : goal.loop-i-init
loop-i-init c = (omega arith, sym (lowest-none _))

pub loop-i-preserved : goal.loop-i-preserved
loop-i-preserved c =
    let l = c.loop-i in
    let h = c.args.h.now in
    let more = lowest-more l.i (λ k. pos (get_or h k 0)) l.lowest l.auto.i l.invariant.1 in
    let kept : Bool → ℕ = λ t. cond t l.i l.lowest in
    elim c.if-h-i.branch [
      | then-h-i w ↦ (omega arith, w.lowest-is ∙ sym (more ∙ ap kept (lt-ltb (get_or h l.i 0) (get_or h l.lowest 0) w.if-h-i.true)))
      | else-h-i w ↦ (omega arith, w.lowest-is ∙ sym (more ∙ ap kept (le-ltb (get_or h l.i 0) (get_or h l.lowest 0) w.if-h-i.false)))
    ]

pub returns : goal.returns
unfolding opening
returns c =
    let e : c.loop-i.i ≡ length c.args.h.now = omega arith in
    c.loop-i.invariant.1 ∙ ap (λ (n : ℕ). first_lowest (n - 1) (λ k. pos (get_or c.args.h.now k 0))) e
