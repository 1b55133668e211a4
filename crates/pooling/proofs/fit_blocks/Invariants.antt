-- The loop of `fit_blocks` keeps: the figures of the bins below `from` are written, and the blocks of the bins from it on are left on the stack.
use Rattle.std.proofs.Common.{◌≤◌, length}
use Rattle.pooling.specs.Blocks.{Block, direction}
use Rattle.pooling.specs.Stack.{stack_of}
use Rattle.pooling.proofs.Filling.{Left, Filled}
use Rattle.pooling.proofs.fit_blocks.Given as goal

abbrev pub invariant-loop-next : goal.invariant-loop-next
invariant-loop-next l = record {
  in_bounds : l.next ≤ length l.places;
  left : Left (direction l.rising) l.h (stack_of l.places l.next) l.from;
  sums : Filled (direction l.rising) l.h (λ (b : Block). b.sum) l.from l.initial.sums l.sums;
  lens : Filled (direction l.rising) l.h (λ (b : Block). b.len) l.from l.initial.lens l.lens;
}
