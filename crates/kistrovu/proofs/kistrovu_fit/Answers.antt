-- `kistrovu_fit` keeps its promise.
use Rattle.std.proofs.Common.{◌∙◌, sym, arith}
use Rattle.pooling.specs.Blocks.{direction}
use Rattle.pooling.proofs.Always.{always-pooled}
use Rattle.grounds.proofs.Served.{fit-served}
use Rattle.kistrovu.proofs.FitAnswers.{fit-answer-served, fit-answer-turned-down}
use Rattle.kistrovu.proofs.kistrovu_fit.Goals as goal

pub fit_blocks-requires-clause-small : goal.fit_blocks-requires-clause-small
fit_blocks-requires-clause-small c =
    let a = fit-served c.args.histogram.now (sym (c.answered-number.ensures.number ∙ c.check_fit.ensures) ∙ c.if-number-eq0.true) in
    record { bins = omega arith; counts = omega arith }

pub fit_blocks-requires-clause-h_in_bounds : goal.fit_blocks-requires-clause-h_in_bounds
fit_blocks-requires-clause-h_in_bounds c =
    let a = fit-served c.args.histogram.now (sym (c.answered-number.ensures.number ∙ c.check_fit.ensures) ∙ c.if-number-eq0.true) in (
      a.bins,
      a.bins,
    )

pub returns-then-number-eq0 : goal.returns-then-number-eq0
returns-then-number-eq0 c = (
  fit-answer-served c.args.rising c.args.histogram.now _ (c.answered-number.ensures.number ∙ c.check_fit.ensures) c.if-number-eq0.true _ _ c.fit_blocks.ensures.sums c.fit_blocks.ensures.lens,
  λ z. always-pooled (direction c.args.rising) c.args.histogram.now,
)

pub returns-else-number-eq0 : goal.returns-else-number-eq0
returns-else-number-eq0 c = (
  fit-answer-turned-down c.args.rising c.args.histogram.now _ (c.answered-number.ensures.number ∙ c.check_fit.ensures) c.if-number-eq0.false,
  λ z. always-pooled (direction c.args.rising) c.args.histogram.now,
)
