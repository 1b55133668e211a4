-- The held separators are those that a line call lists, and the places where a ring's modes start. Assumes nothing.
use Prim.Native.Nat.{ℕ, zero, suc, ◌+◌, ◌-◌, ◌≤◌, ◌<◌}
use mathlib.Core.Path.{◌≡◌, refl, sym, ap, ap₂, subst, ◌∙◌}
use mathlib.Core.List.{List, [], ◌∷◌, ◌++◌}
use native.Mathlib.Omega.{arith}
use native.Mathlib.Numerals.{add-one}
use lib.ListN.{length, take, drop, get_or}
use lib.Seq.{drop-cons, take-suc}
use Rattle.verdict.specs.Test.{Closeness}
use Rattle.segmentation.specs.Segments.{Segment, segment_at}
use Rattle.segmentation.specs.Joining.{line_modes, line_separators}
use Rattle.segmentation.specs.Held.{segments_held}
use Rattle.segmentation.specs.Finished.{Cut}
use Rattle.segmentation.specs.Ring.{opened, ring_modes}
use Rattle.segmentation.proofs.ModeStarts.{starts_of}
use Rattle.segmentation.proofs.Holding.{held-length, held_at}
use Rattle.segmentation.proofs.Finishing.{modes-cut, separators-length}
use Rattle.segmentation.proofs.Applied.{cut-count}
use Rattle.segmentation.proofs.RingPlaces.{ring-length}
use Rattle.segmentation.proofs.RingModes.{ring-fewer}

-- where n held segments start, from number i on
held-starts : (s p : List ℕ) (i n : ℕ) → i + n ≤ length s → starts_of (segments_held s p i n) ≡ take n (drop i s)
unfolding segments_held
held-starts s p i zero h = refl
held-starts s p i (suc n) h =
    let l : i < length s = omega arith in
    ap (λ (xs : List ℕ). get_or s i 0 ∷ xs) (held-starts s p (suc i) n (omega arith)) ∙ sym (ap (take (suc n)) (drop-cons s i 0 l))

module _ (e : Closeness) (h s p : List ℕ) (n : ℕ) (two : 2 ≤ length h) (held : segments_held s p 0 n ≡ line_modes e h) where
  cut : Cut (length h) (segments_held s p 0 n)
  cut = subst (Cut (length h)) (sym held) (modes-cut e h two)

  pub held_below : n < length h
  held_below = omega (arith, cut-count cut, held-length s p 0 n)

  some : 0 < n
  some = omega (arith, cut.non_empty, held-length s p 0 n)

  -- the last one is the last bin
  last : get_or s n 0 ≡ length h - 1
  last =
      let m : n - 1 < n = omega (arith, some) in
      let k : length (segments_held s p 0 n) - 1 ≡ n - 1 = ap (λ (x : ℕ). x - 1) (held-length s p 0 n) in
      let z : suc (n - 1) ≡ n = omega (arith, some) in
      let t : suc (segment_at (segments_held s p 0 n) (n - 1)).end ≡ length h = rw k at cut.to_last_bin in
      let u : (segment_at (segments_held s p 0 n) (n - 1)).end ≡ get_or s (suc (n - 1)) 0 = ap (λ (x : Segment). x.end) (held_at s p n (n - 1) m) in
      let v : get_or s (suc (n - 1)) 0 ≡ get_or s n 0 = ap (λ (x : ℕ). get_or s x 0) z in
      omega arith

  pub line-listed : n < length s → take (n + 1) s ≡ line_separators e h
  unfolding line_separators
  line-listed l =
      ap (λ (x : ℕ). take x s) (add-one n) ∙ take-suc s n 0 l
      ∙ ap₂ (λ (xs : List ℕ) (y : ℕ). xs ++ (y ∷ [])) (sym (held-starts s p 0 n (omega arith)) ∙ ap starts_of held) last

  pub line-listed-length : n + 1 ≡ length (line_separators e h)
  line-listed-length = omega (arith, separators-length e h, ap length held, held-length s p 0 n)

-- the same of a ring: where its modes start, by places from the opening on
module _ (e : Closeness) (h s p : List ℕ) (n : ℕ) (two : 2 ≤ length h) (held : segments_held s p 0 n ≡ ring_modes e h) where
  pub ring-held-count : n ≡ length (ring_modes e h)
  ring-held-count = sym (held-length s p 0 n) ∙ ap length held

  pub ring-held-starts : n ≤ length s → take n s ≡ starts_of (ring_modes e h)
  ring-held-starts l = sym (held-starts s p 0 n (omega arith)) ∙ ap starts_of held

-- a ring has no more modes than bins
pub ring-modes-most : (e : Closeness) (h : List ℕ) → 2 ≤ length h → length (ring_modes e h) ≤ length h
ring-modes-most e h two =
    let long = ring-length h (omega arith) in
    omega (arith, ring-fewer h two e, cut-count (modes-cut e (opened h) (omega arith)))
