-- The best so far is that of the parts passed, with its threshold.
use Rattle.std.proofs.Common.{◌≤◌, ◌-◌, ◌≤ℤ◌}
use Rattle.lists.specs.Lists.{total}
use Rattle.pooling.specs.Blocks.{direction, blocks}
use Rattle.verdict.specs.Near.{Spares}
use Rattle.verdict.specs.Scratch.{BestOf, EndingAt, first_of, start_of}
use Rattle.verdict.proofs.search.Search.best_ending_at.Given as goal

abbrev pub invariant-loop-next : goal.invariant-loop-next
invariant-loop-next l =
    let s = l.self.stretch in
    let first = first_of l.turn (start_of s.places.now l.j) in
    (first ≤ l.next) × (l.fn.best.weight ≤ℤ l.found.weight) × Spares (total s.h.now) l.found
    × BestOf s.h.now (blocks (direction s.rising) s.h.now) l.self.limit (EndingAt l.j first l.next) l.found.weight

abbrev pub decreases-loop-next : goal.decreases-loop-next
decreases-loop-next l = l.end - l.next
