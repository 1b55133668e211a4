-- What is held afterwards is the join of the definitions. Assumes nothing.
use Rattle.std.proofs.Common.{◌≡◌, ◌+◌, Bool, cond, sym, ap, ◌∙◌, rules}
use Rattle.segmentation.proofs.Applied.{join-held}
use Rattle.segmentation.proofs.joins.apply.Goals as goal
use Rattle.segmentation.proofs.joins.apply.Goals.{then-j, else-j}

pub returns-clause-joined : goal.returns-clause-joined
returns-clause-joined c =
    let a = c.args in
    let j = a.j in
    -- which peak stays
    let kept-place : c.if-j.kept ≡ cond j.rise j.first (j.first + 1) = elim c.if-j.branch [
      | then-j w ↦ w.kept-is ∙ sym (ap (λ (b : Bool). cond b j.first (j.first + 1)) w.if-j.true)
      | else-j w ↦ w.kept-is ∙ sym (ap (λ (b : Bool). cond b j.first (j.first + 1)) w.if-j.false)
    ] in
    join-held a.separators.now a.peaks.now a.n j c.if-j.kept c.requires.0 c.requires.1 (search rules) (search rules) kept-place _ _ c.shift.ensures c.shift-2.ensures
