-- A run lower than the best so far takes its place; a run of the same cost does not. Assumes nothing.
use Rattle.std.proofs.Common.{◌≡◌, suc, arith}
use Rattle.verdict.proofs.Machine.{handed-back}
use Rattle.segmentation.specs.Joining.{last_start}
use Rattle.segmentation.specs.Held.{segments_held}
use Rattle.segmentation.specs.Runs.{reader_of, held_count}
use Rattle.segmentation.proofs.Searching.{searched-none, searched-taken, searched-left, searched-to, same-run, run-held, known-held}
use Rattle.segmentation.proofs.Line.cheapest_below.Goals as goal
use Rattle.segmentation.proofs.Line.cheapest_below.Goals.{then-next-least, else-next-least}

pub loop-i-init : goal.loop-i-init
loop-i-init c = rw c.first_start-from.ensures (searched-none _ _ c.requires.none_before)

pub loop-i-preserved : goal.loop-i-preserved
loop-i-preserved c =
    let a = c.args in
    let l = c.loop-i in
    let r = c.run-next in
    let fit = run-held a.among.round a.n a.len l.i c.requires.le_len.0 c.requires.le_len.1 (omega (arith, c.start_count-end.ensures)) in
    let found = rw (same-run a.self.now.closeness a.self.now.bins.now a.separators.now a.peaks.now (held_count a.among.round a.n) l.i a.len (omega arith) fit) at r.ensures in
    let exact = handed-back {z = r.result.cost} (omega (arith, r.ensures.small)) in
    elim c.if-next-least.branch [
      | then-next-least w ↦ rw (w.best-is, w.least-is, exact) (searched-taken _ l.i l.best _ r.result l.invariant found (rw (exact) at w.if-next-least.true))
      | else-next-least w ↦ rw (w.best-is, w.least-is) (searched-left _ l.i l.best _ r.result l.invariant found (rw (exact) at w.if-next-least.false))
    ]

pub returns : goal.returns
returns c =
    let a = c.args in
    let all = segments_held a.separators.now a.peaks.now 0 (held_count a.among.round a.n) in
    let last = last_start a.among.round a.n a.len in
    let q : c.loop-i.i ≡ suc last = omega (arith, c.start_count-end.ensures, c.first_start-from.ensures, known-held a.among.round a.n a.among.known a.len c.requires.le_len.3 c.requires.le_len.0 c.requires.le_len.1) in
    searched-to a.self.now.closeness (reader_of a.self.now) all last a.len c.loop-i.i c.loop-i.best _ c.loop-i.invariant q
