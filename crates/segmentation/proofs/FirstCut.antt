-- The first segments of a line: they cut it, each is a single hump, inner peaks lie inside, and none is empty. Assumes nothing.
use Prim.Native.Nat.{ℕ, zero, suc, ◌+◌, ◌-◌, ◌≤◌, ◌<◌}
use mathlib.Core.Path.{◌≡◌, refl, sym, ap, ◌∙◌}
use mathlib.Core.List.{List, [], ◌∷◌, ◌++◌}
use native.Mathlib.Omega.{arith}
use native.Mathlib.Nat.{min-le_left}
use lib.Dec.{eqb}
use lib.ListN.{length, take, drop, get_or, length-append, length-take}
use lib.Seq.{get_or-append_seam, get_or-take, get_or-drop, take_all}
use borrow.Author.Tests.{eqb-true, eqb-false}
use Rattle.lists.specs.Lists.{total, part, numbers, filter}
use Rattle.lists.proofs.Cases.{by_cond, by_order}
use Rattle.lists.proofs.Sums.{member-le}
use Rattle.lists.proofs.Filters.{linked-at, Neighbours, filter-neighbours}
use Rattle.pooling.specs.Blocks.{Direction, increasing, decreasing}
use Rattle.verdict.specs.Test.{Closeness}
use Rattle.verdict.specs.Exactness.{InOrder, Monotone}
use Rattle.segmentation.specs.Segments.{Segment, segment_at, bin_at, is_valley, first_separators, segments_from, first_segments}
use Rattle.segmentation.specs.Joining.{line_reader, rise_of, fall_of}
use Rattle.segmentation.specs.Finished.{Cut, SingleHump}
use Rattle.segmentation.specs.Inside.{Inside, mode_count}
use Rattle.segmentation.proofs.FirstHumps.{peak_of, peak-from, peak-to, climbs, falls, peak-above-end, peak-above-start, peak-after-start, peak-before-end}
use Rattle.verdict.proofs.Ordered.{monotone-kept}

-- ---- segments from a list of separators
abbrev pub segment_of : List ℕ → ℕ → ℕ → Segment
segment_of h s t = record { start = s; peak = peak_of h s t; end = t }

pub from-length : (h : List ℕ) (s : ℕ) (ts : List ℕ) → length (segments_from h s ts) ≡ length ts
unfolding segments_from
from-length h s [] = refl
from-length h s (t ∷ ts) = ap suc (from-length h t ts)

pub from_at : (h : List ℕ) (s : ℕ) (ts : List ℕ) (m : ℕ) → m < length ts → segment_at (segments_from h s ts) m ≡ segment_of h (get_or (s ∷ ts) m 0) (get_or ts m 0)
unfolding segments_from
from_at h s [] m l = absurd (omega arith)
from_at h s (t ∷ ts) zero l = refl
from_at h s (t ∷ ts) (suc m) l = from_at h t ts m (omega arith)

-- ---- the first separators
abbrev valleys : List ℕ → List ℕ
valleys h = filter (is_valley h) (numbers 1 (length h - 2))

unfoldable pub separator_at : List ℕ → ℕ → ℕ
separator_at h m = get_or (first_separators h) m 0

module _ (h : List ℕ) (two : 2 ≤ length h) where
  pub segments-length : length (first_segments h) ≡ suc (length (valleys h))
  unfolding first_segments first_separators
  segments-length = from-length h 0 (valleys h ++ (length h - 1) ∷ []) ∙ length-append (valleys h) ((length h - 1) ∷ []) ∙ omega arith

  pub first-segment : (m : ℕ) → m < length (first_segments h) → segment_at (first_segments h) m ≡ segment_of h (separator_at h m) (separator_at h (suc m))
  unfolding first_segments first_separators separator_at
  first-segment m l = from_at h 0 (valleys h ++ (length h - 1) ∷ []) m (omega (arith, from-length h 0 (valleys h ++ (length h - 1) ∷ [])))

  pub first-neighbours : (m : ℕ) → m < length (first_segments h) → Neighbours (is_valley h) (length h - 1) (separator_at h m) (separator_at h (suc m))
  unfolding first_segments first_separators separator_at
  first-neighbours m l =
      linked-at (Neighbours (is_valley h) (length h - 1)) 0 (valleys h ++ (length h - 1) ∷ [])
      (filter-neighbours (is_valley h) (length h - 1) 0 1 (length h - 2) (omega arith) (omega arith) (λ k. absurd (omega arith)) (λ k a b. absurd (omega arith)))
      m (omega (arith, from-length h 0 (valleys h ++ (length h - 1) ∷ [])))

  first-zero : separator_at h 0 ≡ 0
  unfolding first_separators separator_at
  first-zero = refl

  first-last : (m : ℕ) → suc m ≡ length (first_segments h) → separator_at h (suc m) ≡ length h - 1
  unfolding first_separators separator_at
  first-last m e =
      let z : m ≡ length (valleys h) = omega (arith, segments-length) in
      ap (λ (k : ℕ). get_or (valleys h ++ (length h - 1) ∷ []) k 0) z ∙ get_or-append_seam (valleys h) (length h - 1) [] 0

  start_of : (m : ℕ) → m < length (first_segments h) → (segment_at (first_segments h) m).start ≡ separator_at h m
  start_of m l = ap (λ (s : Segment). s.start) (first-segment m l)

  peak-of : (m : ℕ) → m < length (first_segments h) → (segment_at (first_segments h) m).peak ≡ peak_of h (separator_at h m) (separator_at h (suc m))
  peak-of m l = ap (λ (s : Segment). s.peak) (first-segment m l)

  end-of : (m : ℕ) → m < length (first_segments h) → (segment_at (first_segments h) m).end ≡ separator_at h (suc m)
  end-of m l = ap (λ (s : Segment). s.end) (first-segment m l)

  -- a separator after the first is not bin 0; one before the last is not the last bin
  after_first : (m : ℕ) → 0 < m → m < length (first_segments h) → 0 < separator_at h m
  after_first zero a l = absurd (omega arith)
  after_first (suc m) a l = let n = (first-neighbours m (omega arith)).below in omega arith

  before_last : (m : ℕ) → suc m < length (first_segments h) → separator_at h (suc m) < length h - 1
  before_last m l = let n = first-neighbours (suc m) l in omega (arith, n.below, n.within)

  pub first-cut : Cut (length h) (first_segments h)
  first-cut = record {
    non_empty = omega (arith, segments-length);
    from_first_bin = start_of 0 (omega (arith, segments-length)) ∙ first-zero;
    to_last_bin =
        let k = length (first_segments h) - 1 in
        let l : k < length (first_segments h) = omega (arith, segments-length) in
        omega (arith, end-of k l, first-last k (omega arith));
    chain = record {
      adjacent = λ m l. end-of m (omega arith) ∙ sym (start_of (suc m) l);
      ascending = λ m l. omega (arith, start_of m l, end-of m l, (first-neighbours m l).below);
      peak_inside = λ m l. (
        omega (arith, start_of m l, peak-of m l, peak-from h (separator_at h m) (separator_at h (suc m)) two (first-neighbours m l)),
        omega (arith, end-of m l, peak-of m l, peak-to h (separator_at h m) (separator_at h (suc m)) two (first-neighbours m l)),
      );
    };
  }

  pub first-inside : Inside (first_segments h)
  first-inside = record {
    after_start = λ m a l. omega (arith, start_of m l, peak-of m l, peak-after-start h (separator_at h m) (separator_at h (suc m)) two (first-neighbours m l) (after_first m a l));
    before_end = λ m l.
        let k : m < length (first_segments h) = omega arith in
        omega (arith, end-of m k, peak-of m k, peak-before-end h (separator_at h m) (separator_at h (suc m)) two (first-neighbours m k) (before_last m l));
  }

-- ---- each is a single hump
part_at : (i j k : ℕ) (h : List ℕ) → k < length (part i j h) → (i + k ≤ j) × (get_or (part i j h) k 0 ≡ bin_at h (i + k))
unfolding part
part_at i j k h l =
    let b : length (take (suc j - i) (drop i h)) ≤ suc j - i = rw (length-take (suc j - i) (drop i h)) (min-le_left (suc j - i) (length (drop i h))) in
    (omega arith, get_or-take (suc j - i) (drop i h) k 0 (omega arith) ∙ get_or-drop i h k 0)

part-monotone : (w : Direction) (i j : ℕ) (h : List ℕ) → ((k : ℕ) → i ≤ k → k < j → InOrder w (bin_at h k) (bin_at h (suc k))) → Monotone w (part i j h)
part-monotone w i j h f k l =
    let z : i + suc k ≡ suc (i + k) = omega arith in
    let a = part_at i j k h (omega arith) in
    let b = part_at i j (suc k) h l in
    rw (a.1, b.1, z) (f (i + k) (omega arith) (omega (arith, b.0)))

pub first-humps : (e : Closeness) (h : List ℕ) → 2 ≤ length h → (m : ℕ) → m < length (first_segments h) → SingleHump e (line_reader h) (first_segments h) m
unfolding rise_of fall_of
first-humps e h two m l =
    let s = separator_at h m in
    let t = separator_at h (suc m) in
    let n = first-neighbours h two m l in
    let z : m + 1 - 1 ≡ m = omega arith in
    record {
      rise = rw (z, start_of h two m l, peak-of h two m l) (monotone-kept e increasing (part s (peak_of h s t) h) (part-monotone increasing s (peak_of h s t) h (climbs h s t two n)));
      fall = rw (z, peak-of h two m l, end-of h two m l) (monotone-kept e decreasing (part (peak_of h s t) t h) (part-monotone decreasing (peak_of h s t) t h (falls h s t two n)));
    }

-- ---- and none is empty
some-total : (h : List ℕ) (s k p : ℕ) → s ≤ p → p < s + k → 0 < bin_at h p → 0 < total (take k (drop s h))
some-total h s k p a b c =
    let z : s + (p - s) ≡ p = omega arith in
    let e : get_or (take k (drop s h)) (p - s) 0 ≡ bin_at h p = get_or-take k (drop s h) (p - s) 0 (omega arith) ∙ get_or-drop s h (p - s) 0 ∙ ap (bin_at h) z in
    omega (arith, member-le (take k (drop s h)) (p - s))

pub first-counts : (h : List ℕ) → 2 ≤ length h → 0 < total h → (m : ℕ) → m < length (first_segments h) → 0 < mode_count h (first_segments h) m
unfolding mode_count
first-counts h two some m l =
    let s = separator_at h m in
    let t = separator_at h (suc m) in
    let n = first-neighbours h two m l in
    let from = peak-from h s t two n in
    let to = peak-to h s t two n in
    rw (start_of h two m l, end-of h two m l)
    (by_cond (λ (z : ℕ). 0 < total (take (z - s) (drop s h))) (eqb (suc m) (length (first_segments h))) (suc t) t
    (λ e. by_order 0 m
    (λ k. some-total h s (suc t - s) (peak_of h s t) from (omega arith) (omega (arith, peak-above-start h s t two n (after_first h two m k l))))
    (λ k.
    let a : m ≡ 0 = omega arith in
    let b : s ≡ 0 = ap (separator_at h) a ∙ first-zero h two in
    let c = first-last h two m (eqb-true (suc m) (length (first_segments h)) e) in
    rw (b, take_all (suc t - 0) h (omega arith)) some))
    (λ e. let q = before_last h two m (omega (arith, eqb-false (suc m) (length (first_segments h)) e)) in
    some-total h s (t - s) (peak_of h s t) from (omega (arith, peak-before-end h s t two n q)) (omega (arith, peak-above-end h s t two n q))))
