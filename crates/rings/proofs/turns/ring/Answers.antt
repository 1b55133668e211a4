-- The opened line is the beginning of the two turns; its modes lie on the ring, and are joined round it. Assumes nothing.
use Rattle.std.proofs.Common.{ℕ, suc, ◌≡◌, ◌+◌, ◌≤◌, ◌<◌, List, length, take, sym, ap, ap₂, subst, ◌∙◌, arith, rules, add-one}
use Rattle.pooling.specs.Limits.{most_ring_bins}
use Rattle.verdict.specs.Test.{Closeness}
use Rattle.segmentation.specs.Segments.{Segment, first_segments}
use Rattle.segmentation.specs.Joining.{line_reader, join_all, line_modes}
use Rattle.segmentation.specs.Around.{ring_joins}
use Rattle.segmentation.specs.Ring.{opened, from_opening, two_turns, round_reader, ring_modes}
use Rattle.segmentation.specs.Held.{segments_held}
use Rattle.segmentation.specs.Runs.{OnRing, NoneAmong}
use Rattle.segmentation.proofs.Finishing.{modes-cut}
use Rattle.segmentation.proofs.Holding.{held-length}
use Rattle.segmentation.proofs.Settled.{one_kept}
use Rattle.segmentation.proofs.Applied.{line-held, ring-held, cut-count}
use Rattle.segmentation.proofs.RingPlaces.{ring-length, ring-small}
use Rattle.segmentation.proofs.TwoTurns.{opening-length, opening-total, opened-turns}
use Rattle.segmentation.proofs.Stepping.{first-on-line}
use Rattle.segmentation.proofs.RingModes.{line-on-ring, line-none, ring-one-kept}
use Rattle.rings.proofs.turns.ring.Goals as goal

-- ---- the ring and its line
module _ (h : List ℕ) (two : 2 ≤ length h) where
  line-is : (round : List ℕ) → round ≡ two_turns h → take (length h + 1) round ≡ opened h
  line-is round turns = ap₂ (λ (k : ℕ) (xs : List ℕ). take k xs) (add-one (length h)) turns ∙ sym (opened-turns h (omega arith))

  long : length (opened h) ≡ suc (length h)
  long = ring-length h (omega arith)

  line-two : 2 ≤ length (opened h)
  line-two = omega (arith, long)

  module _ (e : Closeness) (s p : List ℕ) (n : ℕ) where
    -- a line of one segment
    one-mode : segments_held s p 0 n ≡ first_segments (opened h) → n < 2 → segments_held s p 0 n ≡ ring_modes e h
    one-mode held few =
        let line = one_kept e (opened h) (omega (arith, held-length s p 0 n, ap length held)) in
        held ∙ sym (ring-one-kept e h (omega (arith, held-length s p 0 n, ap length held, ap length line)) ∙ line)

    module _ (held : segments_held s p 0 n ≡ line_modes e (opened h)) where
      modes-few : n ≤ length h
      modes-few = omega (arith, held-length s p 0 n, ap length held, cut-count (modes-cut e (opened h) line-two), long)

      -- no run of the modes of the line is joinable, read round
      none_left : length h ≤ most_ring_bins → NoneAmong e (round_reader h) (segments_held s p 0 n) n
      none_left most =
          subst (NoneAmong e (round_reader h) (segments_held s p 0 n)) (held-length s p 0 n)
          (subst (λ (ss : List Segment). NoneAmong e (round_reader h) ss (length ss)) (sym held) (line-none h two e))

      on-ring : OnRing (length h) (from_opening h) (segments_held s p 0 n)
      on-ring = subst (OnRing (length h) (from_opening h)) (sym held) (line-on-ring h two e)

pub slice_bounds-first_segments-end : goal.slice_bounds-first_segments-end
slice_bounds-first_segments-end c =
    let h = c.args.h.now in
    let two = c.requires.in_bounds.0 in
    rw (line-is h two c.args.round.now c.requires.in_bounds.3) (omega (arith, long h two))

pub first_segments-requires : goal.first_segments-requires
first_segments-requires c =
    let h = c.args.h.now in
    let two = c.requires.in_bounds.0 in
    let l = long h two in
    (search rules, rw (line-is h two c.args.round.now c.requires.in_bounds.3) (line-two h two, omega (arith, c.requires.in_bounds), omega (arith, c.requires.in_bounds)))

pub returns-then-modes-lt2 : goal.returns-then-modes-lt2
returns-then-modes-lt2 c =
    let h = c.args.h.now in
    let two = c.requires.in_bounds.0 in
    let t = c.first_segments.new.self in
    one-mode h two c.args.closeness t.separators t.peaks t.count (c.first_segments.ensures ∙ ap first_segments (line-is h two c.args.round.now c.requires.in_bounds.3)) (omega arith)

pub slice_bounds-line-end : goal.slice_bounds-line-end
slice_bounds-line-end c =
    let h = c.args.h.now in
    let two = c.requires.in_bounds.0 in
    rw (line-is h two c.args.round.now c.requires.in_bounds.3) (omega (arith, long h two))

pub join_all-requires : goal.join_all-requires
join_all-requires c =
    let h = c.args.h.now in
    let in_bounds = c.requires.in_bounds in
    let two = in_bounds.0 in
    let t = c.first_segments.new.self in
    let l = long h two in (
      search rules,
      rw (line-is h two c.args.round.now c.requires.in_bounds.3) (first-on-line _ t (ring-small h two in_bounds.1 in_bounds.2)
          (line-two h two) (c.first_segments.ensures ∙ ap first_segments (line-is h two c.args.round.now c.requires.in_bounds.3))),
    )

pub join_round-requires-clause-ring_held : goal.join_round-requires-clause-ring_held
unfolding two_turns
join_round-requires-clause-ring_held c =
    let h = c.args.h.now in
    let in_bounds = c.requires.in_bounds in
    let two = in_bounds.0 in
    let f = c.first_segments.new.self in
    let t = c.join_all.new.self in
    let line = line-is h two c.args.round.now in_bounds.3 in
    let held : segments_held t.separators t.peaks 0 t.count ≡ line_modes c.args.closeness (opened h) =
    rw line at c.join_all.ensures.all ∙ line-held c.args.closeness (opened h) f.separators f.peaks f.count (c.first_segments.ensures ∙ ap first_segments line) in
    let one : 1 ≤ length h = omega arith in
    let few = modes-few h two c.args.closeness t.separators t.peaks t.count held in
    record {
      turn = from_opening h;
      turns = in_bounds.3;
      as_long = opening-length h one;
      limits = (in_bounds.1, omega (arith, opening-total h, in_bounds));
      prepared = record { places = (omega (arith, t.room, in_bounds), omega (arith, t.room, in_bounds)) };
      on_ring = on-ring h two c.args.closeness t.separators t.peaks t.count held;
    }

pub join_round-requires-clause-none_among : goal.join_round-requires-clause-none_among
join_round-requires-clause-none_among c =
    let h = c.args.h.now in
    let in_bounds = c.requires.in_bounds in
    let two = in_bounds.0 in
    let f = c.first_segments.new.self in
    let t = c.join_all.new.self in
    let line = line-is h two c.args.round.now in_bounds.3 in
    let held : segments_held t.separators t.peaks 0 t.count ≡ line_modes c.args.closeness (opened h) =
    rw line at c.join_all.ensures.all ∙ line-held c.args.closeness (opened h) f.separators f.peaks f.count (c.first_segments.ensures ∙ ap first_segments line) in
    subst (λ (round : List ℕ). NoneAmong c.args.closeness (line_reader round) (segments_held t.separators t.peaks 0 t.count) t.count) (sym in_bounds.3)
    (none_left h two c.args.closeness t.separators t.peaks t.count held in_bounds.1)

pub returns : goal.returns
returns c =
    let h = c.args.h.now in
    let in_bounds = c.requires.in_bounds in
    let two = in_bounds.0 in
    let f = c.first_segments.new.self in
    let t = c.join_all.new.self in
    let line = line-is h two c.args.round.now in_bounds.3 in
    let held : segments_held t.separators t.peaks 0 t.count ≡ line_modes c.args.closeness (opened h) =
    rw line at c.join_all.ensures.all ∙ line-held c.args.closeness (opened h) f.separators f.peaks f.count (c.first_segments.ensures ∙ ap first_segments line) in
    let ss = segments_held t.separators t.peaks 0 t.count in
    c.join_round.ensures.0
    ∙ ap (λ (round : List ℕ). join_all t.count (ring_joins c.args.closeness (line_reader round) (length h)) ss) in_bounds.3
    ∙ ring-held c.args.closeness h t.separators t.peaks t.count held
