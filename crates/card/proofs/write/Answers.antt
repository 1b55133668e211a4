-- What a write takes comes behind what was written before. Assumes nothing.
use Rattle.std.proofs.Common.{rules}
use Rattle.card.proofs.Streams.{writes-on}
use Rattle.card.proofs.write.Goals as goal

pub loop-done-preserved : goal.loop-done-preserved
loop-done-preserved g c =
    (search rules, writes-on _ _ _ c.loop-done.done c.args.printed.len c.in_ok-put.put c.args.printed.bytes (search rules) c.loop-done.invariant.1 c.in_ok-put.ensures.bytes)
