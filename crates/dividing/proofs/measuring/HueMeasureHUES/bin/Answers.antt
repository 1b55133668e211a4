use Rattle.std.proofs.Common.{refl}
use Rattle.pixel.specs.Colour.{hue_point}
use Rattle.pixel.proofs.Hue.{turned-quarter-le}
use Rattle.dividing.proofs.Measured.{coloured-hue}
use Rattle.dividing.proofs.measuring.HueMeasureHUES.bin.Goals as goal

pub hue_of-requires : goal.hue_of-requires
hue_of-requires c = rw c.turned_back.ensures (turned-quarter-le (hue_point c.args.p))

pub returns : goal.returns
returns c = coloured-hue c.args.p c.args.p c.turned_back.result c.hue_of.result refl c.requires c.turned_back.ensures c.hue_of.ensures
