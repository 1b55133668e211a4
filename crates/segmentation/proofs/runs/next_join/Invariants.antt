-- What comes next is what the lengths that are left give. Assumes nothing.
use Rattle.std.proofs.Common.{◌≡◌}
use Rattle.segmentation.specs.Joining.{next_among}
use Rattle.segmentation.specs.Runs.{reader_of, held_among}
use Rattle.segmentation.proofs.Searching.{from_length, cheapest_of}
use Rattle.segmentation.proofs.runs.next_join.Given as goal

abbrev pub invariant-loop-len : goal.invariant-loop-len
invariant-loop-len l =
    next_among l.line.closeness (reader_of l.line) (held_among l.among.round l.separators l.peaks l.n) l.among.round l.n
    ≡ from_length (cheapest_of l.line.closeness l.line.bins.now l.separators l.peaks l.among.round l.n) l.n l.len
