-- The loop of `write_places` keeps: the places of the bins below `from` are written, and the blocks of the bins from it on are left on the stack.
use Rattle.pooling.specs.Blocks.{direction}
use Rattle.pooling.proofs.Filling.{Written}
use Rattle.pooling.proofs.write_places.Given as goal

abbrev pub invariant-loop-next : goal.invariant-loop-next
invariant-loop-next l = Written (direction l.rising) l.h l.places l.from l.next
