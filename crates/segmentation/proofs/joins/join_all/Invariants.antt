-- Joining what is left gives the same as joining all. Assumes nothing.
use Rattle.std.proofs.Common.{◌≡◌, ◌≤◌}
use Rattle.segmentation.specs.Joining.{join_all}
use Rattle.segmentation.specs.Held.{segments_held}
use Rattle.segmentation.specs.Runs.{joins_of, HeldOnLine}
use Rattle.segmentation.proofs.joins.join_all.Given as goal

abbrev pub invariant-loop-join : goal.invariant-loop-join
invariant-loop-join l = record {
  fewer : l.left ≤ l.n;
  on_line : HeldOnLine l.line l.separators l.peaks l.left;
  same : join_all l.left (joins_of l.line) (segments_held l.separators l.peaks 0 l.left)
      ≡ join_all l.n (joins_of l.line) (segments_held l.initial.separators l.initial.peaks 0 l.n);
}

abbrev pub decreases-loop-join : goal.decreases-loop-join
decreases-loop-join l = l.left
