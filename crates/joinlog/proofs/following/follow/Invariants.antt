-- The rest of the log is the log of the joins left to make if and only if all of it is that of all joins, and what is left when they are made is the same.
use Rattle.std.proofs.Common.{◌≡◌}
use Rattle.segmentation.specs.Joining.{join_all}
use Rattle.segmentation.specs.Held.{held}
use Rattle.segmentation.specs.Runs.{joins_of, OnLine}
use Rattle.joinlog.specs.JoinLog.{joins_made, log_of, same_numbers}
use Rattle.joinlog.proofs.following.follow.Given as goal

abbrev pub invariant-loop-join : goal.invariant-loop-join
invariant-loop-join l =
    let w = joins_of l.line in
    let first = l.fn.segments in
    let all = held first in
    let left = held l.segments in
    record {
      on_line : OnLine l.line l.segments;
      same : same_numbers l.rest (log_of (joins_made l.segments.count w left)) ≡ same_numbers l.log (log_of (joins_made first.count w all));
      modes : join_all l.segments.count w left ≡ join_all first.count w all;
    }

abbrev pub decreases-loop-join : goal.decreases-loop-join
decreases-loop-join l = l.segments.count
