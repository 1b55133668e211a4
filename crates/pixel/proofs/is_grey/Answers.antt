use Rattle.pixel.specs.Colour.{is_grey}
use Rattle.pixel.proofs.is_grey.Goals as goal

pub returns : goal.returns
unfolding is_grey
returns c = rw c.chroma_squared.ensures
