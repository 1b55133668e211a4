-- The grounds of a fit come first. Assumes nothing.
use Rattle.std.proofs.Common.{sym, ◌∙◌}
use mir.Syntax.{w32}
use mir.ValLaws.{to_z-of_z}
use Rattle.std.proofs.lemmas.Result.{err_from_is_err_and}
use Rattle.grounds.proofs.Checks.{ground-some}
use Rattle.grounds.proofs.Served.{verdict-turned-down, verdict-asked}
use Rattle.grounds.proofs.check_verdict.Goals as goal

pub returns-in_err-check_fit-clause-number : goal.returns-in_err-check_fit-clause-number
returns-in_err-check_fit-clause-number c =
    let p = err_from_is_err_and c.from_residual.result c.from_residual.ensures.1 in
    rw (p.1, p.2)
    (c.in_err-check_fit.ensures ∙ sym (verdict-turned-down c.args.closeness c.args.h.now (λ z. ground-some c.in_err-check_fit.field-0.0 (c.in_err-check_fit.ensures ∙ z))))

pub returns-clause-number : goal.returns-clause-number
returns-clause-number c = (rw (to_z-of_z w32 c.args.closeness c.ranges.closeness) at c.check_closeness.ensures.number) ∙ sym (verdict-asked c.args.closeness c.args.h.now (sym c.in_ok-check_fit.ensures))
