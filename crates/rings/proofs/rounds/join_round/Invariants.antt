-- Joining what is left gives the same as joining all.
use Rattle.std.proofs.Common.{◌≡◌, ◌+◌, ◌≤◌}
use Rattle.segmentation.specs.Joining.{join_all}
use Rattle.segmentation.specs.Around.{ring_joins}
use Rattle.segmentation.specs.Held.{segments_held}
use Rattle.segmentation.specs.Runs.{reader_of, NoneAmong}
use Rattle.rings.specs.Twice.{RingHeld}
use Rattle.rings.proofs.rounds.join_round.Given as goal

abbrev pub invariant-loop-join : goal.invariant-loop-join
invariant-loop-join l =
    let w = ring_joins l.turns.closeness (reader_of l.turns) l.bins in
    let first = l.fn.modes in
    let left = segments_held l.modes.separators l.modes.peaks 0 l.modes.count in
    record {
      fewer : l.modes.count ≤ first.count;
      ring : RingHeld l.turns l.modes l.bins;
      none : NoneAmong l.turns.closeness (reader_of l.turns) left l.known;
      known : (l.known ≤ l.modes.count) × (l.modes.count ≤ l.known + 1);
      same : join_all l.modes.count w left ≡ join_all first.count w (segments_held first.separators first.peaks 0 first.count);
    }

abbrev pub decreases-loop-join : goal.decreases-loop-join
decreases-loop-join l = l.modes.count
