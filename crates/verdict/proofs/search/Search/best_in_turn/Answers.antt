-- One bin more: the parts that end there are taken in.
use Rattle.lists.proofs.Signed.{le-trans-ℤ}
use Rattle.pooling.specs.Blocks.{direction, blocks}
use Rattle.verdict.proofs.Caps.{best-bin}
use Rattle.verdict.proofs.search.Search.best_in_turn.Goals as goal

pub loop-j-preserved : goal.loop-j-preserved
loop-j-preserved c =
    let s = c.args.self.now.stretch in
    let b = c.best_ending_at-found.ensures in (
      le-trans-ℤ _ _ _ c.loop-j.invariant.0 b.weight_le_weight.0,
      b.weight_le_weight.1,
      best-bin s.h.now (blocks (direction s.rising) s.h.now) c.args.self.now.limit c.args.turn s.places.now c.loop-j.j c.loop-j.invariant.2 b.weight_le_weight.0 b.best_of,
    )
