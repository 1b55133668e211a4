-- Three colours, if the line is ended. Assumes nothing.
use Rattle.std.proofs.Common.{refl, sym, ◌∙◌}
use borrow.Author.Tests.{eq-eqb, ne_eqb}
use Rattle.lists.specs.Lists.{whole}
use Rattle.swatch.specs.Input.{line_feed}
use Rattle.swatch.proofs.Fields.{pixel-line-fields}
use Rattle.swatch.proofs.input.pixel_line.Goals as goal

pub returns-then-line-ne10 : goal.returns-then-line-ne10
returns-then-line-ne10 c = sym (pixel-line-fields c.args.line.now c.requires ∙ rw (ne_eqb _ line_feed c.if-line-ne10.true) refl)

pub returns-in_err-red : goal.returns-in_err-red
unfolding whole
returns-in_err-red c =
    rw c.from_residual.ensures (sym (pixel-line-fields c.args.line.now c.requires ∙ rw (eq-eqb _ line_feed c.if-line-ne10.false, ← c.in_err-red.ensures) refl))

pub returns-in_err-green : goal.returns-in_err-green
unfolding whole
returns-in_err-green c =
    rw c.from_residual-in_err-green.ensures
    (sym (pixel-line-fields c.args.line.now c.requires ∙ rw (eq-eqb _ line_feed c.if-line-ne10.false, ← c.in_ok-red.ensures, ← c.in_err-green.ensures) refl))

pub returns-in_err-blue : goal.returns-in_err-blue
unfolding whole
returns-in_err-blue c =
    rw c.from_residual-in_err-blue.ensures
    (sym (pixel-line-fields c.args.line.now c.requires ∙ rw (eq-eqb _ line_feed c.if-line-ne10.false, ← c.in_ok-red.ensures, ← c.in_ok-green.ensures, ← c.in_err-blue.ensures) refl))

pub returns : goal.returns
unfolding whole
returns c =
    sym (pixel-line-fields c.args.line.now c.requires
    ∙ rw (eq-eqb _ line_feed c.if-line-ne10.false, ← c.in_ok-red.ensures, ← c.in_ok-green.ensures, ← c.in_ok-blue.ensures) refl)
