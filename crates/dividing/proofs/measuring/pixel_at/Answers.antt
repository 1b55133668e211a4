use Rattle.std.proofs.Common.{sym}
use Rattle.palette.proofs.Triples.{pixels-at}
use Rattle.dividing.proofs.measuring.pixel_at.Goals as goal

pub returns : goal.returns
returns c = sym (pixels-at c.args.pixels.now c.args.i c.requires)
