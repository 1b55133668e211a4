-- Where no bar is above 0 nothing joins: the first segments of a line are its modes, and those of a ring. So it is at the least closeness on a line of up to 44 bins and a ring of up to 43. Assumes nothing.
use Prim.Native.Nat.{ℕ, suc, ◌+◌, ◌-◌, ◌≤◌, ◌<◌}
use mathlib.Core.Path.{◌≡◌, refl, sym, ap, subst, ◌∙◌}
use mathlib.Core.Bool.{Bool, true, false, true≢false}
use mathlib.Core.List.{List, [], ◌∷◌, map}
use mathlib.Core.Option.{Option, none, some}
use native.Mathlib.Omega.{arith}
use lib.ListN.{length}
use lib.IntN.{ℤ, pos}
use lib.Signed.{lt_z, ◌≤ℤ◌}
use Rattle.lists.specs.Lists.{part, numbers, filter, first_that, first_lowest}
use Rattle.lists.proofs.Cases.{by_cond, by_order}
use Rattle.lists.proofs.Found.{none_passes}
use Rattle.lists.proofs.Signed.{nlt-le-ℤ, lt_no}
use Rattle.logarithm.specs.Log.{round_count, units_per_bit, floor_log, rounds, lg}
use Rattle.pooling.specs.Blocks.{Direction, increasing, decreasing}
use Rattle.verdict.specs.Test.{Closeness, least_closeness, bar, cost}
use Rattle.verdict.proofs.Whole.{low-bar-cost}
use Rattle.segmentation.specs.Segments.{Segment, segment_at, first_separators, segments_from, first_segments}
use Rattle.segmentation.specs.Joining.{line_reader, Join, last_in, rise_of, fall_of, rise_cost, fall_cost, join_of, last_start, next_among, next_join, line_joins, line_modes}
use Rattle.segmentation.specs.Around.{twice, next_round, ring_joins}
use Rattle.segmentation.specs.Ring.{opening, opened, two_turns, round_reader, ring_modes}
use Rattle.segmentation.specs.Finished.{Chain}
use Rattle.segmentation.specs.Loose.{LowBars, LowBarNeverJoins, NothingJoins, kept_bins, KeptAtMinusTen, RingKeptAtMinusTen}
use Rattle.segmentation.proofs.Kept.{between}
use Rattle.segmentation.proofs.FirstCut.{first-cut}
use Rattle.segmentation.proofs.Settled.{chosen, chosen-below, joins-none, one_kept}
use Rattle.segmentation.proofs.Finishing.{part_length}
use Rattle.segmentation.proofs.RunsInside.{line-end}
use Rattle.segmentation.proofs.RingPlaces.{ring-length}
use Rattle.segmentation.proofs.TwoTurns.{turns-length}
use Rattle.segmentation.proofs.Turned.{twice-length, twice-first, twice-chain, round-end}
use Rattle.segmentation.proofs.RingModes.{line-on-ring, ring-one-kept}

pub low-bar-never-joins : LowBarNeverJoins
low-bar-never-joins e w h l = low-bar-cost w h l e

-- ---- nothing joins
-- a line of two bins or fewer has a single segment
short-one : (h : List ℕ) → length h ≤ 2 → length (first_segments h) ≤ 1
unfolding first_segments first_separators segments_from numbers filter
short-one h l = let z : length h - 2 ≡ 0 = omega arith in rw z (omega arith)

-- along a line and round a ring: where every run's two stretches have a low bar, no run is joined
module _ (e : Closeness) (h : List ℕ) (bins : ℕ) (low : LowBars e bins) where
  stretch-cost : (w : Direction) (i j : ℕ) → i ≤ j → j < length h → j < i + bins → pos 0 ≤ℤ cost e w (part i j h)
  stretch-cost w i j a b d =
      let l = part_length i j h a b in
      low-bar-cost w (part i j h) (omega arith) e (low (length (part i j h)) (omega arith) (omega arith))

  module _ (ss : List Segment) (c : Chain ss) (round : Bool) (count : ℕ)
      (held : (i n : ℕ) → 2 ≤ n → n ≤ count → i ≤ last_start round count n → (i + n ≤ length ss) × ((last_in ss i n).end < length h) × ((last_in ss i n).end < (segment_at ss i).start + bins)) where
    run-cost : (i n : ℕ) → 2 ≤ n → n ≤ count → i ≤ last_start round count n → pos 0 ≤ℤ (join_of e (line_reader h) ss i n).cost
    unfolding join_of rise_cost fall_cost rise_of fall_of
    run-cost i n a b l =
        let r = rise_cost e (line_reader h) ss i n in
        let f = fall_cost e (line_reader h) ss i n in
        let in-h = held i n a b l in
        let k = between ss c i n (omega arith) in-h.0 in
        by_cond (λ (z : ℤ). pos 0 ≤ℤ z) (lt_z r f) r f
        (λ t. stretch-cost increasing (segment_at ss i).start (last_in ss i n).peak k.rise_from (omega (arith, k.rise_to, in-h)) (omega (arith, k.rise_to, in-h)))
        (λ t. stretch-cost decreasing (segment_at ss i).peak (last_in ss i n).end k.fall_to in-h.1 (omega (arith, k.fall_from, in-h)))

    none-next : next_among e (line_reader h) ss round count ≡ none
    none-next = go (next_among e (line_reader h) ss round count) refl
      where
        go : (o : Option Join) → next_among e (line_reader h) ss round count ≡ o → o ≡ none
        go none q = refl
        go (some j) q =
            let r = chosen e (line_reader h) ss round count j q in
            let k = subst (λ (j : Join). pos 0 ≤ℤ j.cost) r.same (run-cost r.first r.len r.two r.all r.starts) in
            absurd (true≢false (sym (chosen-below e (line_reader h) ss round count j q) ∙ lt_no j.cost (pos 0) k))

long_kept : (e : Closeness) (h : List ℕ) → LowBars e (length h) → 2 ≤ length h → line_modes e h ≡ first_segments h
unfolding line_modes next_join
long_kept e h low two =
    let ss = first_segments h in
    let c = first-cut h two in
    joins-none (line_joins e (line_reader h)) (length ss) ss
    (none-next e h (length h) low ss c.chain false (length ss)
    (λ i n a b k. let end = line-end c (i + n - 1) (omega arith) in (omega arith, end, omega arith)))

pub nothing-joins : NothingJoins
nothing-joins e h low = by_order (length h) 2 (λ l. one_kept e h (short-one h (omega arith))) (long_kept e h low)

-- ---- nor round a ring, whose opened line has one bin more
opened-most : (h : List ℕ) → length (opened h) ≤ suc (length h)
unfolding opened opening first_lowest
opened-most [] = omega arith
opened-most (x ∷ h) = omega (arith, ring-length (x ∷ h) (omega arith))

ring-long-kept : (e : Closeness) (h : List ℕ) → LowBars e (suc (length h)) → 2 ≤ length h → ring_modes e h ≡ line_modes e (opened h)
unfolding ring_modes next_round
ring-long-kept e h low two =
    let ss = line_modes e (opened h) in
    let c = (line-on-ring h two e).cut in
    joins-none (ring_joins e (round_reader h) (length h)) (length ss) ss
    (none-next e (two_turns h) (suc (length h)) low (twice (length h) ss) (twice-chain c) true (length ss)
    (λ i n a b k.
    let here : i < length ss = omega arith in
    let end = round-end c i n here (omega arith) b in
    let start = ap (λ (s : Segment). s.start) (twice-first (length h) ss i here) in
    (omega (arith, twice-length (length h) ss), omega (arith, c.first_turn i here, turns-length h (omega arith)), omega arith)))

ring-nothing-joins : (e : Closeness) (h : List ℕ) → LowBars e (suc (length h)) → ring_modes e h ≡ line_modes e (opened h)
ring-nothing-joins e h low =
    by_order (length h) 2
    (λ l.
    let one = short-one (opened h) (omega (arith, opened-most h)) in
    ring-one-kept e h (omega (arith, ap length (one_kept e (opened h) one))))
    (ring-long-kept e h low)

-- ---- at the least closeness
-- of the bars of 1 bin up to 44, none is above 0: all are computed
none_above : first_that (lt_z (pos 0)) (map (bar least_closeness) (numbers 1 kept_bins)) ≡ none
unfolding first_that numbers kept_bins bar least_closeness round_count units_per_bit floor_log rounds lg
none_above = refl

low-bars : LowBars least_closeness kept_bins
low-bars l a b = nlt-le-ℤ (pos 0) (bar least_closeness l) (none_passes (bar least_closeness) 1 kept_bins (lt_z (pos 0)) none_above l a (omega arith))

pub kept-at-minus-ten : KeptAtMinusTen
kept-at-minus-ten h k = nothing-joins least_closeness h (λ l a b. low-bars l a (omega arith))

pub ring-kept-at-minus-ten : RingKeptAtMinusTen
ring-kept-at-minus-ten h k =
    ring-nothing-joins least_closeness h (λ l a b. low-bars l a (omega arith)) ∙ kept-at-minus-ten (opened h) (omega (arith, opened-most h))
