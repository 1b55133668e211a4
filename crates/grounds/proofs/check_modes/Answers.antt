-- The grounds of a verdict come first. Assumes nothing.
use Rattle.std.proofs.Common.{sym, ◌≡◌, ◌∙◌}
use mir.Syntax.{w32}
use mir.ValLaws.{to_z-of_z}
use Rattle.std.proofs.lemmas.Result.{err_from_is_err_and}
use borrow.Author.Tests.{lt-ltb, le-ltb}
use Rattle.grounds.specs.Grounds.{first_ground, verdict_number}
use Rattle.grounds.specs.Checks.{ground_number}
use Rattle.grounds.proofs.Checks.{ground-some}
use Rattle.grounds.proofs.Served.{modes-turned-down, modes-asked}
use Rattle.grounds.proofs.check_modes.Goals as goal

pub returns-in_err-checked-clause-number : goal.returns-in_err-checked-clause-number
returns-in_err-checked-clause-number c =
    let said : ground_number c.in_err-checked.field-0.0 ≡ verdict_number c.args.closeness c.args.h.now = rw (to_z-of_z w32 c.args.closeness c.ranges.closeness) at c.in_err-checked.ensures.number in
    let p = err_from_is_err_and c.from_residual.result c.from_residual.ensures.1 in
    rw (p.1, p.2)
    (said
    ∙ sym (modes-turned-down c.args.closeness c.args.h.now c.args.places (λ z. ground-some c.in_err-checked.field-0.0 (said ∙ z))))

pub returns-then-places-h-clause-number : goal.returns-then-places-h-clause-number
unfolding first_ground
returns-then-places-h-clause-number c = sym (modes-asked c.args.closeness c.args.h.now c.args.places (sym (rw (to_z-of_z w32 c.args.closeness c.ranges.closeness) at c.in_ok-checked.ensures.number)) ∙ simp (lt-ltb _ _ c.if-places-h.true))

pub returns-clause-number : goal.returns-clause-number
unfolding first_ground
returns-clause-number c = sym (modes-asked c.args.closeness c.args.h.now c.args.places (sym (rw (to_z-of_z w32 c.args.closeness c.ranges.closeness) at c.in_ok-checked.ensures.number)) ∙ simp (le-ltb _ _ c.if-places-h.false))
