-- What a read hands back stands behind what was read before. Assumes nothing.
use Rattle.std.proofs.Common.{rules}
use Rattle.card.proofs.Streams.{reads-on}
use Rattle.card.proofs.read_text.Goals as goal

pub loop-len-preserved : goal.loop-len-preserved
loop-len-preserved g c =
    (search rules, search rules, reads-on _ _ _ _ _ _ _ c.loop-len.invariant.1 c.in_ok-got.ensures.bound.0 c.loop-len.invariant.2 c.in_ok-got.ensures.bytes.0)
