use Rattle.std.proofs.Common.{◌∙◌, ℕ, List, get_or, refl, ap}
use Rattle.std.proofs.Math.ListN.{set}
use Rattle.std.proofs.Math.Seq.{take_all}
use Rattle.making.specs.Making.{labelled}
use Rattle.making.proofs.Labelled.{labelled-more}
use Rattle.making.proofs.entries.label_range.Goals as goal

pub loop-at-init : goal.loop-at-init
unfolding labelled
loop-at-init c = refl

pub loop-at-preserved : goal.loop-at-preserved
loop-at-preserved c =
    let l = c.loop-at in
    let a = c.args in
    let x = get_or a.numbers.now l.at-index 0 in
    ap (λ (z : List ℕ). set z x a.label) l.invariant ∙ labelled-more a.label a.numbers.now a.labels.now l.at-index c.loop-at-test.true

pub returns : goal.returns
returns c =
    let l = c.loop-at in
    let a = c.args in
    l.invariant ∙ ap (λ (z : List ℕ). labelled a.label z a.labels.now) (take_all l.at-index a.numbers.now c.loop-at-test.false)
