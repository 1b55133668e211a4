-- The separators are in order within the line; with the peaks between them they are the segments. Assumes nothing.
use Rattle.std.proofs.Common.{add-one, arith}
use Rattle.segmentation.proofs.FirstHeld.{held-in-line, first-held}
use Rattle.segmentation.proofs.first.first_segments.Goals as goal

pub first_highest-requires : goal.first_highest-requires
first_highest-requires c =
    let f = c.first_separators-n in
    rw add-one (held-in-line c.args.h.now f.new.separators f.result c.requires.0 (omega (arith, f.ensures, f.auto, c.requires)) f.ensures.1 c.loop-m.m (omega arith))

pub returns-clause-first : goal.returns-clause-first
returns-clause-first c =
    let f = c.first_separators-n in
    first-held c.args.h.now f.new.separators f.result c.requires.0 (omega (arith, f.ensures, f.auto, c.requires)) f.ensures.1 c.loop-m.peaks (λ m l. c.loop-m.invariant m (omega arith))
