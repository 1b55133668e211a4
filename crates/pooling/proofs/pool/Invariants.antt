-- The loop of `pool` keeps: the blocks held are those of the bins from bin i on.
use Rattle.std.proofs.Common.{◌≤◌, length}
use Rattle.pooling.specs.Blocks.{direction}
use Rattle.pooling.specs.Stack.{stack_of, HeldFrom}
use Rattle.pooling.proofs.pool.Given as goal

abbrev pub invariant-loop-i : goal.invariant-loop-i
invariant-loop-i l = record { within : l.top ≤ length l.places; held : HeldFrom (direction l.rising) l.h l.i (stack_of l.places l.top) }
