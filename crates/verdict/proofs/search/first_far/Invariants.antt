-- The parts passed are near.
use Rattle.pooling.specs.Blocks.{direction, blocks}
use Rattle.verdict.specs.Near.{NearUpTo}
use Rattle.verdict.proofs.search.first_far.Given as goal

abbrev pub invariant-loop-i : goal.invariant-loop-i
invariant-loop-i l = NearUpTo l.s.h.now (blocks (direction l.s.rising) l.s.h.now) l.t l.j l.first l.i
