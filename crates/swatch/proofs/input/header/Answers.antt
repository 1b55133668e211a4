-- The fields of the first line are those of the first 13 bytes. Assumes nothing.
use Rattle.std.proofs.Common.{refl, sym, ◌∙◌}
use borrow.Author.Tests.{eq-eqb, ne_eqb}
use Rattle.lists.specs.Lists.{whole}
use Rattle.swatch.specs.Input.{line_feed}
use Rattle.swatch.proofs.Lines.{header-short, header-is}
use Rattle.swatch.proofs.input.header.Goals as goal

pub returns-in_err-line : goal.returns-in_err-line
returns-in_err-line c = rw c.from_residual.ensures (sym (header-short c.args.text.now c.in_err-line.ensures.cases))

pub returns-then-line-ne10 : goal.returns-then-line-ne10
returns-then-line-ne10 c = sym (header-is _ _ c.in_ok-line.ensures.cases ∙ rw (ne_eqb _ line_feed c.if-line-ne10.true) refl)

pub returns-in_err-width : goal.returns-in_err-width
unfolding whole
returns-in_err-width c =
    rw c.from_residual-in_err-width.ensures (sym (header-is _ _ c.in_ok-line.ensures.cases ∙ rw (eq-eqb _ line_feed c.if-line-ne10.false, ← c.in_err-width.ensures) refl))

pub returns-in_err-height : goal.returns-in_err-height
unfolding whole
returns-in_err-height c =
    rw c.from_residual-in_err-height.ensures
    (sym (header-is _ _ c.in_ok-line.ensures.cases ∙ rw (eq-eqb _ line_feed c.if-line-ne10.false, ← c.in_ok-width.ensures, ← c.in_err-height.ensures) refl))

pub returns : goal.returns
unfolding whole
returns c = sym (header-is _ _ c.in_ok-line.ensures.cases ∙ rw (eq-eqb _ line_feed c.if-line-ne10.false, ← c.in_ok-width.ensures, ← c.in_ok-height.ensures) refl)
