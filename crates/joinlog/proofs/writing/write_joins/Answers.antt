-- The join that was found is the first of those left to write, and there are fewer joins than bins. What was found is taken from what is known, however the head of the loop spells it.
use Rattle.std.proofs.Common.{ℕ, ℤ, ◌≡◌, ◌+◌, ◌*◌, ◌<◌, List, ◌∷◌, ◌++◌, length, take, sym, ap, subst, ◌∙◌, arith, rules}
use Rattle.std.proofs.Math.Option.{some}
use Rattle.std.specs.Prelude.{None, Some}
use Rattle.lists.specs.Lists.{over}
use Rattle.segmentation.specs.declared.Join.{Join}
use Rattle.segmentation.specs.declared.Line.{Line}
use Rattle.segmentation.specs.declared.Segments.{Segments}
use Rattle.segmentation.specs.Segments.{Segment}
use Rattle.segmentation.specs.Joining.{next_join}
use Rattle.segmentation.specs.Held.{held, join_found}
use Rattle.segmentation.specs.Runs.{reader_of, joins_of, OnLine}
use Rattle.segmentation.proofs.Settled.{line-shortens}
use Rattle.segmentation.proofs.Stepping.{on-line-count, next-within, fewer, on-line-after}
use Rattle.joinlog.specs.JoinLog.{JoinRecord, joins_made, numbers_of, record_numbers}
use Rattle.joinlog.proofs.Made.{made_none, held-made, made_held}
use Rattle.joinlog.proofs.Logs.{Written, written_none, written-room, written-more, written_all}
use Rattle.joinlog.proofs.Lines.{held-made-few}
use Rattle.joinlog.proofs.writing.write_joins.Goals as goal

module _ {N : ℕ} (line : Line) (s : Segments N) (j : Join) (next : next_join line.closeness (reader_of line) (held s) ≡ some j) where
  abbrev after : List Segment
  after = (joins_of line).after (held s) j

  -- the join that was found comes first of those left to make
  more : {all : List Join} {before log : List ℤ} {made : ℕ} → Written all before log made (joins_made s.count (joins_of line) (held s))
      → Written all before log made (j ∷ joins_made (length after) (joins_of line) after)
  more {all} {before} {log} {made} = subst (Written all before log made) (held-made (joins_of line) (line-shortens line.closeness (reader_of line)) s.separators s.peaks s.count j next)

  -- and there is room for it
  room : {before log : List ℤ} {made : ℕ} (first : Segments N) → OnLine line first
      → Written (joins_made first.count (joins_of line) (held first)) before log made (joins_made s.count (joins_of line) (held s)) → made < length line.bins.now
  room first on w = omega (arith, written-room (more w), held-made-few line first on)

pub loop-join-init : goal.loop-join-init
loop-join-init c = record { on_line = c.requires.0; written = written_none _ _ }

pub overflow_mul-joins : goal.overflow_mul-joins
overflow_mul-joins c =
    let a = c.args in
    let v = c.loop-join.segments in
    let first = a.segments.now in
    let is : c.next_on_line.result ≡ Some c.in-Some.join = grind arith in
    let few = room a.line.now v c.in-Some.join (sym c.next_on_line.ensures ∙ ap join_found is) first c.requires.0 c.loop-join.invariant.written in
    record { fits = omega (arith, c.requires.0.small.bins) }

pub record_of-requires : goal.record_of-requires
record_of-requires c =
    let a = c.args in
    let v = c.loop-join.segments in
    let on = c.loop-join.invariant.on_line in
    let bins = on-line-count a.line.now v on in
    let is : c.next_on_line.result ≡ Some c.in-Some.join = grind arith in
    let within = next-within a.line.now v on c.in-Some.join (sym c.next_on_line.ensures ∙ ap join_found is) in
    (omega (arith, on.small.bins), omega (arith, on.small.bins))

pub put_record-requires : goal.put_record-requires
put_record-requires c =
    let a = c.args in
    let v = c.loop-join.segments in
    let first = a.segments.now in
    let is : c.next_on_line.result ≡ Some c.in-Some.join = grind arith in
    let few = room a.line.now v c.in-Some.join (sym c.next_on_line.ensures ∙ ap join_found is) first c.requires.0 c.loop-join.invariant.written in
    omega (arith, c.requires.1, c.loop-join.auto.log)

pub apply-requires : goal.apply-requires
apply-requires c =
    let a = c.args in
    let v = c.loop-join.segments in
    let is : c.next_on_line.result ≡ Some c.in-Some.join = grind arith in
    (search rules, next-within a.line.now v c.loop-join.invariant.on_line c.in-Some.join (sym c.next_on_line.ensures ∙ ap join_found is))

pub overflow_add-joins : goal.overflow_add-joins
overflow_add-joins c =
    let a = c.args in
    let v = c.loop-join.segments in
    let first = a.segments.now in
    let is : c.next_on_line.result ≡ Some c.in-Some.join = grind arith in
    let few = room a.line.now v c.in-Some.join (sym c.next_on_line.ensures ∙ ap join_found is) first c.requires.0 c.loop-join.invariant.written in
    record { fits = omega (arith, c.requires.0.small.bins) }

pub loop-join-smaller : goal.loop-join-smaller
loop-join-smaller c =
    let a = c.args in
    let v = c.loop-join.segments in
    let t = c.apply.new.self in
    let is : c.next_on_line.result ≡ Some c.in-Some.join = grind arith in
    let next = sym c.next_on_line.ensures ∙ ap join_found is in
    fewer a.line.now v c.loop-join.invariant.on_line c.in-Some.join next t c.apply.ensures.joined

pub loop-join-preserved : goal.loop-join-preserved
loop-join-preserved c =
    let a = c.args in
    let v = c.loop-join.segments in
    let t = c.apply.new.self in
    let w = joins_of a.line.now in
    let j = c.in-Some.join in
    let first = a.segments.now in
    let all = joins_made first.count w (held first) in
    let is : c.next_on_line.result ≡ Some c.in-Some.join = grind arith in
    let next = sym c.next_on_line.ensures ∙ ap join_found is in
    let done = c.apply.ensures.joined in
    record {
      on_line = on-line-after a.line.now v c.loop-join.invariant.on_line j next t done;
      written = subst (Written all a.log.now c.put_record.new.log (c.loop-join.joins + 1))
          (sym (made_held w t.separators t.peaks t.count (w.after (held v) j) done))
          (written-more (more a.line.now v j next c.loop-join.invariant.written) c.put_record.new.log
          (c.put_record.ensures ∙ ap (λ (r : JoinRecord). over (take (record_numbers * c.loop-join.joins) c.loop-join.log ++ numbers_of r) c.loop-join.log) c.record_of.ensures));
    }

pub returns : goal.returns
returns c =
    let a = c.args in
    let v = c.loop-join.segments in
    let w = joins_of a.line.now in
    let first = a.segments.now in
    let all = joins_made first.count w (held first) in
    let is : c.next_on_line.result ≡ None = grind arith in
    let none = sym c.next_on_line.ensures ∙ ap join_found is in
    written_all (subst (Written all a.log.now c.loop-join.log c.loop-join.joins) (made_none w v.count (held v) none) c.loop-join.invariant.written)
