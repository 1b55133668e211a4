-- The search goes through all runs of the line. Assumes nothing.
use Rattle.std.proofs.Common.{false, sym, ap, ◌∙◌, arith}
use Rattle.segmentation.specs.Joining.{next_among, next_join}
use Rattle.segmentation.specs.Held.{segments_held}
use Rattle.segmentation.specs.Runs.{reader_of}
use Rattle.segmentation.proofs.Holding.{held-length}
use Rattle.segmentation.proofs.RunsInside.{line-inside}
use Rattle.segmentation.proofs.Stepping.{held-line-count}
use Rattle.segmentation.proofs.joins.next_on_line.Goals as goal

pub next_join-requires : goal.next_join-requires
next_join-requires c =
    let a = c.args in
    let on = c.requires.1 in
    let k = held-line-count a.line.now a.separators.now a.peaks.now a.n on in
    let room = c.requires.0.places in
    record {
      prepared = record { places = (omega (arith, room), omega (arith, room)) };
      all_inside = line-inside a.line.now.bins.now a.separators.now a.peaks.now a.n on.small on.cut;
      none_among = λ n two i l. absurd (omega arith);
      le_count = (k.0, omega (arith, k, on.small.bins), omega arith);
    }

pub returns : goal.returns
unfolding next_join
returns c =
    let a = c.args in
    c.next_join.ensures
    ∙ ap (next_among a.line.now.closeness (reader_of a.line.now) (segments_held a.separators.now a.peaks.now 0 a.n) false)
    (sym (held-length a.separators.now a.peaks.now 0 a.n))
