-- A step leaves fewer segments, which cut the line still; joining them gives the same. Assumes nothing.
use Rattle.std.proofs.Common.{sym, ap, ◌∙◌, arith}
use Rattle.segmentation.specs.Held.{segments_held, join_found}
use Rattle.segmentation.specs.Runs.{reader_of, joins_of}
use Rattle.segmentation.proofs.Applied.{held-step}
use Rattle.segmentation.proofs.Settled.{joins-none, line-shortens}
use Rattle.segmentation.proofs.Stepping.{next-held, held-fewer, held-line-after}
use Rattle.segmentation.proofs.joins.join_all.Goals as goal

pub apply-left-requires : goal.apply-left-requires
apply-left-requires c =
    let l = c.loop-join in
    let next = sym c.next_on_line.ensures ∙ ap join_found c.in-Some.is in
    let w = next-held c.args.line.now l.separators l.peaks l.left l.invariant.on_line c.in-Some.join next in
    let room = c.requires.0.places in
    (w.0, w.1, omega (arith, room, l.invariant.fewer, l.auto), omega (arith, room, l.invariant.fewer, l.auto))

pub loop-join-smaller : goal.loop-join-smaller
loop-join-smaller c =
    let l = c.loop-join in
    let next = sym c.next_on_line.ensures ∙ ap join_found c.in-Some.is in
    held-fewer c.args.line.now l.separators l.peaks l.left l.invariant.on_line c.in-Some.join next _ _ _ c.apply-left.ensures.joined

pub loop-join-preserved : goal.loop-join-preserved
loop-join-preserved c =
    let line = c.args.line.now in
    let l = c.loop-join in
    let t = c.apply-left.new in
    let j = c.in-Some.join in
    let on = l.invariant.on_line in
    let made = c.apply-left.ensures.joined in
    let next = sym c.next_on_line.ensures ∙ ap join_found c.in-Some.is in
    record {
      fewer = omega (arith, held-fewer line l.separators l.peaks l.left on j next t.separators t.peaks _ made, l.invariant.fewer);
      on_line = held-line-after line l.separators l.peaks l.left on j next t.separators t.peaks _ made;
      same = held-step (joins_of line) (line-shortens line.closeness (reader_of line)) l.separators l.peaks t.separators t.peaks l.left _ j next made
          ∙ l.invariant.same;
    }

pub returns-clause-all : goal.returns-clause-all
returns-clause-all c =
    let l = c.loop-join in
    let none = sym c.next_on_line.ensures ∙ ap join_found c.in_default.is in
    sym (joins-none (joins_of c.args.line.now) l.left (segments_held l.separators l.peaks 0 l.left) none) ∙ l.invariant.same
