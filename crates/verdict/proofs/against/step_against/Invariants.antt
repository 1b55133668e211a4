-- The bins before bin i have no step against the direction.
use Rattle.pooling.specs.Blocks.{direction}
use Rattle.verdict.proofs.Ordered.{OrderedTo}
use Rattle.verdict.proofs.against.step_against.Given as goal

abbrev pub invariant-loop-i : goal.invariant-loop-i
invariant-loop-i l = OrderedTo (direction l.rising) l.h l.i
