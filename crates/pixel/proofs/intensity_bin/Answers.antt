use Rattle.pixel.specs.Colour.{intensity_bin}
use Rattle.pixel.proofs.intensity_bin.Goals as goal

pub returns : goal.returns
unfolding intensity_bin
returns c = rw (c.from.ensures, c.from-2.ensures, c.from-3.ensures)
