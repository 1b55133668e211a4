-- The records of the joins made stand in the first places of the log, and those left to make come next.
use Rattle.segmentation.specs.Held.{held}
use Rattle.segmentation.specs.Runs.{joins_of, OnLine}
use Rattle.joinlog.specs.JoinLog.{joins_made}
use Rattle.joinlog.proofs.Logs.{Written}
use Rattle.joinlog.proofs.writing.write_joins.Given as goal

abbrev pub invariant-loop-join : goal.invariant-loop-join
invariant-loop-join l =
    let w = joins_of l.line in
    let first = l.fn.segments in
    let all = held first in
    let left = held l.segments in
    record {
      on_line : OnLine l.line l.segments;
      written : Written (joins_made first.count w all) l.fn.log l.log l.joins (joins_made l.segments.count w left);
    }

abbrev pub decreases-loop-join : goal.decreases-loop-join
decreases-loop-join l = l.segments.count
