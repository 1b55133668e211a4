-- The search begins with the whole stretch.
use Rattle.pooling.specs.Blocks.{direction}
use Rattle.verdict.proofs.Caps.{whole-attained}
use Rattle.verdict.proofs.search.Search.best_weight.Goals as goal

pub best_in_turn-inside-requires : goal.best_in_turn-inside-requires
best_in_turn-inside-requires c =
    let s = c.args.self.now.stretch in
    record { so_far = (whole-attained (direction s.rising) s.h.now c.requires c.best_at-whole.ensures.0, rw c.counts.ensures at c.best_at-whole.ensures.1) }
