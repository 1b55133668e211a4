use Rattle.std.proofs.Common.{◌*◌, ◌/◌, arith}
use Rattle.pixel.proofs.Saturation.{saturation-root}
use Rattle.pixel.proofs.saturation_of.Goals as goal

pub returns : goal.returns
returns g c = saturation-root c.args.q c.root.result c.requires.small (c.requires.roots (2 * c.args.q / 75) c.root.result (omega arith) c.root.ensures)
