-- The places past the last bin stay as they were.
use Rattle.std.proofs.Common.{refl, sym}
use Rattle.lists.specs.Lists.{over}
use Rattle.pooling.specs.Blocks.{direction}
use Rattle.pooling.proofs.Places.{places-length}
use Rattle.pooling.proofs.fit_places.Goals as goal

pub returns : goal.returns
unfolding over
returns c = rw (c.write_places.ensures, sym (places-length (direction c.args.rising) c.args.h.now)) refl
