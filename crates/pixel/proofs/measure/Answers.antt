use Rattle.pixel.specs.Colour.{measures_of}
use Rattle.pixel.proofs.measure.Goals as goal

pub returns : goal.returns
unfolding measures_of
returns c = rw (c.intensity_bin.ensures, c.saturation_bin.ensures, c.hue_bin.ensures, c.is_grey.ensures)
