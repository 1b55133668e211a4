-- The loop of `push` keeps: the block so far, pushed onto the blocks that are left, makes the same stack.
use Rattle.std.proofs.Common.{◌≡◌, ◌+◌, ◌-◌, ◌<◌, ◌≤◌, length}
use Rattle.pooling.specs.Blocks.{direction, push}
use Rattle.pooling.specs.Limits.{most_bins, most_counts}
use Rattle.pooling.specs.Stack.{stack_of, sum_in, bins_in}
use Rattle.pooling.proofs.push.Given as goal

abbrev pub invariant-loop-next : goal.invariant-loop-next
invariant-loop-next l = record {
  some : 0 < l.next;
  within : l.next ≤ length l.places;
  counts : sum_in (stack_of l.places l.next) + l.block.sum ≤ most_counts;
  bins : bins_in (stack_of l.places l.next) + l.block.len ≤ most_bins;
  same : push (direction l.rising) l.block (stack_of l.places l.next) ≡ push (direction l.rising) l.initial.block (stack_of l.places l.fn.top);
}

abbrev pub decreases-loop-next : goal.decreases-loop-next
decreases-loop-next l = length l.places - l.next
