-- The first segments of a line as the code keeps them: separators in one list, peaks in another. Assumes nothing.
use Prim.Native.Nat.{ℕ, suc, ◌+◌, ◌-◌, ◌≤◌, ◌<◌}
use mathlib.Core.Path.{◌≡◌, refl, sym, ap, ◌∙◌}
use mathlib.Core.Bool.{cond}
use mathlib.Core.List.{List, [], ◌∷◌}
use native.Mathlib.Omega.{arith}
use lib.Dec.{ltb}
use lib.ListN.{length, take, drop, get_or}
use lib.Seq.{get_or-take, length-take-le}
use borrow.Author.Tests.{lt-ltb, le-ltb}
use Rattle.segmentation.specs.Segments.{bin_at, first_highest, first_separators, segments_from, first_segments}
use Rattle.segmentation.specs.Held.{segments_held}
use Rattle.segmentation.specs.Walk.{InLine, PeaksHeld}
use Rattle.segmentation.proofs.FirstHumps.{peak_of}
use Rattle.segmentation.proofs.FirstCut.{separator_at, first-neighbours, from-length}

-- ---- the first highest bin, one bin more at a time
pub highest-first : (h : List ℕ) (s : ℕ) → s ≡ first_highest h s (s + 1 - 1 - s)
unfolding first_highest
highest-first h s = let z : s + 1 - 1 - s ≡ 0 = omega arith in rw z

module _ (h : List ℕ) (s i m : ℕ) (l : s < i) (e : m ≡ first_highest h s (i - 1 - s)) where
  highest-more : first_highest h s (i + 1 - 1 - s) ≡ cond (ltb (bin_at h m) (bin_at h i)) i m
  unfolding first_highest
  highest-more =
      let z : i + 1 - 1 - s ≡ suc (i - 1 - s) = omega arith in
      let y : s + suc (i - 1 - s) ≡ i = omega arith in
      rw (z, y, e)

  pub highest-higher : bin_at h m < bin_at h i → i ≡ first_highest h s (i + 1 - 1 - s)
  highest-higher d = rw (highest-more, lt-ltb (bin_at h m) (bin_at h i) d)

  pub highest-kept : bin_at h i ≤ bin_at h m → m ≡ first_highest h s (i + 1 - 1 - s)
  highest-kept d = rw (highest-more, le-ltb (bin_at h m) (bin_at h i) d)

-- ---- separators and peaks are the segments
held-from : (h separators peaks : List ℕ) (i s : ℕ) (ts : List ℕ) → ((m : ℕ) → m ≤ length ts → get_or separators (i + m) 0 ≡ get_or (s ∷ ts) m 0)
    → ((m : ℕ) → m < length ts → get_or peaks (i + m) 0 ≡ peak_of h (get_or separators (i + m) 0) (get_or separators (suc (i + m)) 0))
    → segments_held separators peaks i (length ts) ≡ segments_from h s ts
unfolding segments_held segments_from
held-from h separators peaks i s [] a b = refl
held-from h separators peaks i s (t ∷ ts) a b =
    let z : i + 0 ≡ i = omega arith in
    let y : i + 1 ≡ suc i = omega arith in
    let start : get_or separators i 0 ≡ s = rw z at (a 0 (omega arith)) in
    let end : get_or separators (suc i) 0 ≡ t = rw y at (a 1 (omega arith)) in
    let peak : get_or peaks i 0 ≡ peak_of h s t = rw (z, start, end) at (b 0 (omega arith)) in
    let rest = held-from h separators peaks (suc i) t ts
    (λ m l. let x : i + suc m ≡ suc i + m = omega arith in rw x at (a (suc m) (omega arith)))
    (λ m l. let x : i + suc m ≡ suc i + m = omega arith in rw x at (b (suc m) (omega arith))) in
    rw (start, end, peak, rest)

module _ (h separators : List ℕ) (n : ℕ) (two : 2 ≤ length h) (room : n < length separators) (e : take (n + 1) separators ≡ first_separators h) where
  count-is : length (first_segments h) ≡ n
  unfolding first_segments first_separators
  count-is = omega (arith, from-length h 0 (drop 1 (first_separators h)), ap length e, length-take-le (n + 1) separators (omega arith))

  held_at : (m : ℕ) → m ≤ n → get_or separators m 0 ≡ separator_at h m
  unfolding separator_at
  held_at m l = sym (get_or-take (n + 1) separators m 0 (omega arith)) ∙ ap (λ (xs : List ℕ). get_or xs m 0) e

  pub held-in-line : InLine h separators n
  held-in-line m l =
      let v = first-neighbours h two m (omega (arith, count-is)) in
      let a = held_at m (omega arith) in
      let b = held_at (suc m) l in
      (omega (arith, v.below), omega (arith, v.within))

  pub first-held : (peaks : List ℕ) → PeaksHeld h separators peaks n → segments_held separators peaks 0 n ≡ first_segments h
  unfolding first_segments first_separators separator_at
  first-held peaks p =
      let ts = drop 1 (first_separators h) in
      let z : length ts ≡ n = omega (arith, count-is, from-length h 0 ts) in
      ap (segments_held separators peaks 0) (sym z) ∙ held-from h separators peaks 0 0 ts
      (λ m l. let y : 0 + m ≡ m = omega arith in rw y (held_at m (omega arith)))
      (λ m l. let y : 0 + m ≡ m = omega arith in rw y (p m (omega arith)))
