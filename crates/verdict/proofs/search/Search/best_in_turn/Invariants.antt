-- The best so far is that of the turn's parts that end at the bins passed.
use Rattle.std.proofs.Common.{◌≤ℤ◌}
use Rattle.lists.specs.Lists.{total}
use Rattle.pooling.specs.Blocks.{direction, blocks}
use Rattle.verdict.specs.Near.{Spares}
use Rattle.verdict.specs.Scratch.{BestOf, Visits}
use Rattle.verdict.proofs.search.Search.best_in_turn.Given as goal

abbrev pub invariant-loop-j : goal.invariant-loop-j
invariant-loop-j l =
    let s = l.self.stretch in
    (l.fn.best.weight ≤ℤ l.found.weight) × Spares (total s.h.now) l.found
    × BestOf s.h.now (blocks (direction s.rising) s.h.now) l.self.limit (Visits l.turn s.places.now l.j) l.found.weight
