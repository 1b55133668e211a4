-- A log that was followed leads to the modes, and their separators are held. Assumes nothing.
use Rattle.std.proofs.Common.{ℕ, ℤ, refl, ◌≡◌, ◌+◌, List, ◌++◌, drop, Some, sym, ap, ap₂, ◌∙◌, arith}
use Rattle.std.proofs.Math.Seq.{length-take-le}
use Rattle.lists.specs.Lists.{over}
use Rattle.verdict.specs.Test.{Closeness}
use Rattle.segmentation.specs.declared.Join.{Join}
use Rattle.segmentation.specs.Segments.{first_segments}
use Rattle.segmentation.specs.Joining.{line_reader, Joins, line_joins, join_all, line_modes}
use Rattle.segmentation.specs.Held.{segments_held}
use Rattle.segmentation.proofs.Applied.{line-held}
use Rattle.segmentation.proofs.HeldStarts.{held_below, line-listed, line-listed-length}
use Rattle.segmentation.proofs.Stepping.{first-on-line}
use Rattle.joinlog.specs.JoinLog.{joins_made, log_of, line_log, made_on_line, same_numbers}
use Rattle.joinlog.proofs.Made.{made_held}
use Rattle.joinlog.proofs.replay.Goals as goal

-- of the first segments that are held
module _ (e : Closeness) (h s p : List ℕ) (n : ℕ) (first : segments_held s p 0 n ≡ first_segments h) where
  abbrev w : Joins
  w = line_joins e (line_reader h)

  -- the log of their joins is that of the line
  same-is : (log : List ℤ) → same_numbers log (line_log e h) ≡ same_numbers log (log_of (joins_made n w (segments_held s p 0 n)))
  unfolding line_log made_on_line
  same-is log = ap (λ (js : List Join). same_numbers log (log_of js)) (sym (made_held w s p n (first_segments h) first))

  -- what is left when all joins are made are its modes
  modes : (t q : List ℕ) (r : ℕ) → segments_held t q 0 r ≡ join_all n w (segments_held s p 0 n) → segments_held t q 0 r ≡ line_modes e h
  modes t q r done = done ∙ line-held e h s p n first

pub follow-requires : goal.follow-requires
follow-requires c =
    let a = c.args in
    let t = c.first_segments.new.self in
    let in_bounds = c.requires.in_bounds in
    first-on-line _ t c.requires.small in_bounds.0 c.first_segments.ensures

pub returns-then-not-follow-clause-followed : goal.returns-then-not-follow-clause-followed
returns-then-not-follow-clause-followed c =
    let a = c.args in
    let f = c.first_segments.new.self in
    rw (same-is a.closeness a.h.now f.separators f.peaks f.count c.first_segments.ensures a.log.now, ← c.follow.ensures.0, c.if-not-follow.true) refl

pub returns-then-not-follow-clause-list : goal.returns-then-not-follow-clause-list
returns-then-not-follow-clause-list c =
    let a = c.args in
    let f = c.first_segments.new.self in
    rw (same-is a.closeness a.h.now f.separators f.peaks f.count c.first_segments.ensures a.log.now, ← c.follow.ensures.0, c.if-not-follow.true) refl

pub slice_bounds-copy_from_slice-end : goal.slice_bounds-copy_from_slice-end
slice_bounds-copy_from_slice-end c =
    let a = c.args in
    let e = a.closeness in
    let f = c.first_segments.new.self in
    let t = c.follow.new.segments in
    let held = modes e a.h.now f.separators f.peaks f.count c.first_segments.ensures t.separators t.peaks t.count (c.follow.ensures.1 c.if-not-follow.false) in
    omega (arith, held_below e a.h.now t.separators t.peaks t.count c.requires.in_bounds.0 held, c.requires.in_bounds)

pub slice_bounds-copy_from_slice-end-2 : goal.slice_bounds-copy_from_slice-end-2
slice_bounds-copy_from_slice-end-2 c =
    let a = c.args in
    let e = a.closeness in
    let f = c.first_segments.new.self in
    let t = c.follow.new.segments in
    let held = modes e a.h.now f.separators f.peaks f.count c.first_segments.ensures t.separators t.peaks t.count (c.follow.ensures.1 c.if-not-follow.false) in
    let below = held_below e a.h.now t.separators t.peaks t.count c.requires.in_bounds.0 held in
    sym (length-take-le (t.count + 1) a.list.now (omega (arith, c.requires.in_bounds)))

pub copy_from_slice-requires : goal.copy_from_slice-requires
copy_from_slice-requires c =
    let a = c.args in
    let e = a.closeness in
    let f = c.first_segments.new.self in
    let t = c.follow.new.segments in
    let held = modes e a.h.now f.separators f.peaks f.count c.first_segments.ensures t.separators t.peaks t.count (c.follow.ensures.1 c.if-not-follow.false) in
    let below = held_below e a.h.now t.separators t.peaks t.count c.requires.in_bounds.0 held in
    length-take-le (t.count + 1) a.list.now (omega (arith, c.requires.in_bounds)) ∙ sym (length-take-le (t.count + 1) t.separators (omega (arith, t.room)))

pub returns-clause-followed : goal.returns-clause-followed
returns-clause-followed c =
    let a = c.args in
    let e = a.closeness in
    let f = c.first_segments.new.self in
    let t = c.follow.new.segments in
    let held = modes e a.h.now f.separators f.peaks f.count c.first_segments.ensures t.separators t.peaks t.count (c.follow.ensures.1 c.if-not-follow.false) in
    rw (same-is e a.h.now f.separators f.peaks f.count c.first_segments.ensures a.log.now, ← c.follow.ensures.0, c.if-not-follow.false)
    (ap (λ (n : ℕ). Some n) (line-listed-length e a.h.now t.separators t.peaks t.count c.requires.in_bounds.0 held))

pub returns-clause-list : goal.returns-clause-list
unfolding over
returns-clause-list c =
    let a = c.args in
    let e = a.closeness in
    let f = c.first_segments.new.self in
    let t = c.follow.new.segments in
    let two = c.requires.in_bounds.0 in
    let held = modes e a.h.now f.separators f.peaks f.count c.first_segments.ensures t.separators t.peaks t.count (c.follow.ensures.1 c.if-not-follow.false) in
    let listed = line-listed e a.h.now t.separators t.peaks t.count two held (omega (arith, t.room)) in
    rw (same-is e a.h.now f.separators f.peaks f.count c.first_segments.ensures a.log.now, ← c.follow.ensures.0, c.if-not-follow.false)
    (ap₂ (λ (xs : List ℕ) (n : ℕ). xs ++ drop n a.list.now) (c.copy_from_slice.ensures.after ∙ listed) (line-listed-length e a.h.now t.separators t.peaks t.count two held))
