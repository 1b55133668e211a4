-- Each column is a digit or ends the number. Assumes nothing.
use Rattle.std.proofs.Common.{arith, sym, ◌∙◌, ◌≡◌, true, get_or}
use Rattle.swatch.specs.Input.{is_digit}
use Rattle.swatch.proofs.Fields.{digit-range, digits_more, digits-end, digits-all, digits-grow}
use Rattle.swatch.proofs.input.digits.Goals as goal

pub returns-then-not-is_ascii_digit : goal.returns-then-not-is_ascii_digit
returns-then-not-is_ascii_digit c =
    sym (digits-end c.loop-c.value _ c.loop-c.c-index c.loop-c-test.true (sym c.if-not-is_ascii_digit.ensures.value)) ∙ c.loop-c.invariant.1

pub loop-c-preserved : goal.loop-c-preserved
loop-c-preserved c =
    let columns = c.args.columns.now in
    let digit : is_digit (get_or columns c.loop-c.c-index 0) ≡ true = sym c.if-not-is_ascii_digit.ensures.value in
    let range = digit-range (get_or columns c.loop-c.c-index 0) digit in (
      digits-grow c.loop-c.value c.from.result c.loop-c.c-index c.loop-c.invariant.0 (omega (arith, range, c.from.ensures)),
      rw c.from.ensures (sym (digits_more c.loop-c.value columns c.loop-c.c-index c.loop-c-test.true digit)) ∙ c.loop-c.invariant.1,
    )

pub returns : goal.returns
returns c = sym (digits-all c.loop-c.value _ c.loop-c.c-index (omega arith)) ∙ c.loop-c.invariant.1
