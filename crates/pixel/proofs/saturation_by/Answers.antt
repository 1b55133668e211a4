use Rattle.std.proofs.Common.{arith, ap, ◌∙◌}
use Rattle.pixel.specs.Colour.{saturation_of, saturation_bin}
use Rattle.pixel.proofs.Chroma.{chroma-le}
use Rattle.pixel.proofs.saturation_by.Goals as goal

pub saturation_of-requires-clause-small : goal.saturation_of-requires-clause-small
saturation_of-requires-clause-small c = omega (arith, c.chroma_squared.ensures, chroma-le c.args.p (omega arith) (omega arith) (omega arith))

pub returns : goal.returns
unfolding saturation_bin
returns c = c.saturation_of.ensures ∙ ap saturation_of c.chroma_squared.ensures
