-- Spaces, then a numeral. Assumes nothing.
use Rattle.std.proofs.Common.{arith, sym, ap, ◌∙◌, ◌≤◌, length}
use borrow.Author.Tests.{eqb-true, eqb-false}
use Rattle.swatch.specs.Input.{field, numeral}
use Rattle.swatch.proofs.Fields.{spaces-shorter, numeral-none, numeral-leading, numeral-plain}
use Rattle.swatch.proofs.input.field_value.Goals as goal
use Rattle.swatch.proofs.input.field_value.Goals.{else-numeral-eq48-via-then-numeral-eq48+else-numeral-gt1, else-numeral-eq48-via-else-numeral-eq48}

pub returns-then-is_empty : goal.returns-then-is_empty
unfolding field
returns-then-is_empty c =
    sym (ap numeral (sym c.after_spaces-numeral.ensures) ∙ numeral-none _ (omega (arith, eqb-true (length c.after_spaces-numeral.result.now) 0 (sym c.if-is_empty.ensures))))

pub returns-then-numeral-gt1 : goal.returns-then-numeral-gt1
unfolding field
returns-then-numeral-gt1 c = sym (ap numeral (sym c.after_spaces-numeral.ensures) ∙ numeral-leading _ (omega arith) (omega arith))

pub digits-requires : goal.digits-requires
digits-requires c = omega (arith, ap length c.after_spaces-numeral.ensures, spaces-shorter c.args.columns.now)

pub returns : goal.returns
unfolding field
returns c =
    let shown = c.after_spaces-numeral.result.now in
    let some : 1 ≤ length shown = omega (arith, eqb-false (length shown) 0 (sym c.if-is_empty.ensures)) in
    c.digits.ensures
    ∙ sym (ap numeral (sym c.after_spaces-numeral.ensures)
    ∙ numeral-plain shown some (λ e. elim c.else-numeral-eq48.branch [ else-numeral-eq48-via-then-numeral-eq48+else-numeral-gt1 w ↦ omega arith | else-numeral-eq48-via-else-numeral-eq48 w ↦ omega arith ]))
