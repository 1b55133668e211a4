-- The bins of a histogram numbered by mode: the mode that the code gives a place, along a line or round a ring, is the one that it lies in. Assumes nothing.
use Prim.Native.Nat.{ℕ, suc, ◌+◌, ◌-◌, ◌%◌, ◌≤◌, ◌<◌}
use mathlib.Core.Path.{◌≡◌, refl, sym, ap, ap₂, ◌∙◌}
use mathlib.Core.Bool.{Bool, true}
use mathlib.Core.List.{List, append_assoc}
use lib.ListN.{length, take, get_or}
use lib.Seq.{take_at}
use native.Mathlib.Omega.{arith}
use borrow.Author.Tests.{eqb-true}
use Rattle.lists.specs.Lists.{numbers, over, ExactlyOne, first_index}
use Rattle.lists.proofs.Cases.{by_order}
use Rattle.lists.proofs.Filters.{numbers-length}
use Rattle.lists.proofs.Places.{numbers-at}
use Rattle.lists.proofs.Counting.{one-counted}
use Rattle.lists.proofs.Firsts.{passes_at_first}
use Rattle.lists.proofs.Rotations.{mod_below}
use Rattle.verdict.specs.Test.{Closeness}
use Rattle.segmentation.specs.Segments.{Segment, segment_at, in_mode}
use Rattle.segmentation.specs.Joining.{line_modes, line_separators}
use Rattle.segmentation.specs.Ring.{opening, ring_bin, line_place, ring_modes, in_arc, in_round, in_ring_mode}
use Rattle.segmentation.specs.Finished.{Chain, Cut}
use Rattle.segmentation.proofs.ModeStarts.{starts_of, starts-length, start-at, starts-rise}
use Rattle.segmentation.proofs.Finishing.{modes-cut, separators-length}
use Rattle.segmentation.proofs.OneMode.{one-mode, in-mode, in-last-mode}
use Rattle.segmentation.proofs.RoundOne.{in-arc, left_or, right_or}
use Rattle.segmentation.proofs.RingPlaces.{place_in, place-bin}
use Rattle.segmentation.proofs.RingModes.{ring_cut, ring-one-mode, ring-starts-taken}
use Rattle.palette.specs.Levels.{hue}
use Rattle.dividing.specs.Splitting.{mode_of}
use Rattle.dividing.specs.Numbering.{Rises, ModeAt, PlacesNumbered, BinsNumbered, LineNumbered}

-- the one of the numbers below n that passes is the first that does
pub first-of-one : (n : ℕ) (test : ℕ → Bool) → ExactlyOne n test → (m : ℕ) → m < n → test m ≡ true → first_index test (numbers 0 n) ≡ m
first-of-one n test one m l t =
    let xs = numbers 0 n in
    let k : m < length xs = omega (arith, numbers-length 0 n) in
    let here : get_or xs m 0 ≡ m = numbers-at 0 n m 0 l ∙ omega arith in
    sym (eqb-true m (first_index test xs) (sym (passes_at_first test xs 0 (one-counted n test one) m k) ∙ ap test here ∙ t))

-- ---- where modes start, as the code lends it
module _ (ss : List Segment) where
  modes-rise : 0 < length ss → Chain ss → Rises (starts_of ss)
  modes-rise some c = record { some = omega (arith, starts-length ss); rises = starts-rise ss c }

  -- n modes are found, and where they start stands in the first places of the list
  pub record Lent (list : List ℕ) (n : ℕ) : Type 0 where
    pub count : n ≡ length ss
    pub starts : take n list ≡ starts_of ss
    pub long : length (take n list) ≡ n
    pub rise : Rises (take n list)

  pub lent : 0 < length ss → Chain ss → (list : List ℕ) (n : ℕ) → n ≡ length ss → take n list ≡ starts_of ss → Lent list n
  lent some c list n count starts = record {
    count = count;
    starts = starts;
    long = ap length starts ∙ starts-length ss ∙ sym count;
    rise = rw starts (modes-rise some c);
  }

  -- the mode that has a place at or after the first separator starts there or before, and the next one after it
  module _ (c : Chain ss) (m i : ℕ) (at : ModeAt (starts_of ss) m i) (from : (segment_at ss 0).start ≤ i) where
    mode-in : m < length ss
    mode-in = omega (arith, at.mode, starts-length ss)

    mode-starts : (segment_at ss m).start ≤ i
    mode-starts = omega (arith, start-at ss 0, start-at ss m, at.begun (omega (arith, start-at ss 0)))

    mode-ends : suc m < length ss → i < (segment_at ss m).end
    mode-ends l =
        let k : suc m < length (starts_of ss) = omega (arith, starts-length ss) in
        omega (arith, start-at ss 0, start-at ss (suc m), at.not_next (omega (arith, start-at ss 0)) k, c.adjacent m l)

-- ---- a line
module _ (e : Closeness) (h : List ℕ) (two : 2 ≤ length h) where
  abbrev lines : List Segment
  lines = line_modes e h

  cut : Cut (length h) lines
  cut = modes-cut e h two

  -- r separators, as the code lists them: the modes' and the last bin
  pub line-lent : (buffer list : List ℕ) (r : ℕ) → r ≡ length (line_separators e h) → list ≡ over (line_separators e h) buffer → (1 ≤ r) × Lent lines list (r - 1)
  unfolding over line_separators
  line-lent buffer list r q is =
      let n = length lines in
      let count : r - 1 ≡ n = omega (arith, q, separators-length e h) in (
        omega (arith, q, separators-length e h),
        lent lines cut.non_empty cut.chain list (r - 1) count
            (ap₂ (λ (j : ℕ) (xs : List ℕ). take j xs) count (is ∙ append_assoc (starts_of lines) _ _) ∙ take_at (starts_of lines) _ n (starts-length lines)),
      )

  -- the mode of a place is the one that it lies in
  line-mode-in : (m i : ℕ) → ModeAt (starts_of lines) m i → i < length h → in_mode lines m i ≡ true
  line-mode-in m i b l =
      let n = length lines in
      let zero : (segment_at lines 0).start ≤ i = omega (arith, cut.from_first_bin) in
      let from = mode-starts lines cut.chain m i b zero in
      by_order (suc m) n
      (λ k. in-mode lines m i from (mode-ends lines cut.chain m i b zero k))
      (λ k.
      let last : suc m ≡ n = omega (arith, mode-in lines cut.chain m i b zero) in
      let at : m ≡ n - 1 = omega arith in
      let end = ap (λ (x : ℕ). (segment_at lines x).end) at in
      by_order i (segment_at lines m).end (in-mode lines m i from)
      (λ p. in-last-mode lines m i from last (omega (arith, end, cut.to_last_bin))))

  bin-numbered : (next : List ℕ) → length next ≡ length h → PlacesNumbered (starts_of lines) 0 next
      → (b : ℕ) → b < length h → get_or next b 0 ≡ first_index (λ k. in_mode lines k b) (numbers 0 (length lines))
  bin-numbered next same p b l =
      let r = p b (omega arith) in
      let z : (0 + b) % length next ≡ b = mod_below (0 + b) (length next) (omega arith) ∙ omega arith in
      let m = r.0 in
      ap (λ (k : ℕ). get_or next k 0) (sym z) ∙ r.2
      ∙ sym (first-of-one (length lines) (λ k. in_mode lines k b) (one-mode (length h) lines cut b l) m (omega (arith, r.1.mode, starts-length lines)) (line-mode-in m b r.1 l))

  pub line-numbered : (next : List ℕ) → length next ≡ length h → PlacesNumbered (starts_of lines) 0 next → LineNumbered e h next (length lines)
  unfolding mode_of
  line-numbered next same p =
      record {
        saturations = record { found = refl; numbered = bin-numbered next same p };
        intensities = record { found = refl; numbered = bin-numbered next same p };
      }

-- ---- a ring
module _ (e : Closeness) (h : List ℕ) (two : 2 ≤ length h) where
  abbrev rings : List Segment
  rings = ring_modes e h

  pub ring-lent : (buffer list : List ℕ) (n : ℕ) → n ≡ length rings → list ≡ over (starts_of rings) buffer → Lent rings list n
  ring-lent buffer list n count is =
      let c = ring_cut h two e in
      lent rings c.non_empty c.chain list n count (ring-starts-taken e h buffer list n count is)

  -- the mode of a place is the one that it lies in: before the first separator the last, which has it a turn later
  ring-mode-in : (m i : ℕ) → ModeAt (starts_of rings) m i → i < length h → in_round (length h) rings m i ≡ true
  unfolding in_round
  ring-mode-in m i b l =
      let c = ring_cut h two e in
      let s = segment_at rings m in
      let here = in_arc s i in
      let later = in_arc s (i + length h) in
      let k : m < length rings = omega (arith, b.mode, starts-length rings) in
      by_order i (segment_at rings 0).start
      (λ u.
      let last : m ≡ length rings - 1 = omega (arith, b.none_yet (omega (arith, start-at rings 0)), starts-length rings) in
      let end = ap (λ (x : ℕ). (segment_at rings x).end) last in
      right_or here later (in-arc s (i + length h) (omega (arith, c.first_turn m k)) (omega (arith, end, c.once_round))))
      (λ u.
      let from = mode-starts rings c.chain m i b u in
      left_or here later (in-arc s i from (by_order (suc m) (length rings) (mode-ends rings c.chain m i b u)
      (λ j.
      let last : m ≡ length rings - 1 = omega arith in
      omega (arith, ap (λ (x : ℕ). (segment_at rings x).end) last, c.once_round)))))

  pub ring-numbered : (at : ℕ) → at ≡ opening h → (next : List ℕ) → length next ≡ length h → PlacesNumbered (starts_of rings) at next → BinsNumbered e hue h next (length rings)
  unfolding mode_of in_ring_mode ring_bin
  ring-numbered at q next same p = record {
    found = refl;
    numbered = λ b l.
        let one : 1 ≤ length h = omega arith in
        let i = line_place h b in
        let inside : i < length h = place_in h one b in
        let r = p i (omega arith) in
        let z : (at + i) % length next ≡ b = rw (q, same) (place-bin h one b l) in
        let m = r.0 in
        ap (λ (k : ℕ). get_or next k 0) (sym z) ∙ r.2
        ∙ sym (first-of-one (length rings) (λ k. in_ring_mode e h k b) (ring-one-mode h two e b) m (omega (arith, r.1.mode, starts-length rings)) (ring-mode-in m i r.1 inside));
  }
