-- A field is a colour if it fits a byte. Assumes nothing.
use Rattle.std.proofs.Common.{arith, refl, ap, ◌∙◌}
use Rattle.swatch.specs.Reading.{given, colour_field}
use Rattle.swatch.proofs.Given.{fitting-alike}
use Rattle.swatch.proofs.input.colour_value.Goals as goal

pub returns-in_err-value : goal.returns-in_err-value
unfolding colour_field
returns-in_err-value c = rw (c.from_residual.ensures, ← c.in_err-value.ensures) refl

pub returns : goal.returns
unfolding colour_field
returns c = ap given c.ok.ensures.value ∙ rw (← c.in_ok-value.ensures) (fitting-alike c.try_from.result _ c.in_ok-value.value c.try_from.ensures (omega arith))
