-- The opened line of a ring: its first bin is the first of the ring's lowest bins, each bin of the ring has one place on it, and its sum is at most 1.5 times the ring's.
-- Assumes nothing.
use Prim.Native.Nat.{ℕ, suc, ◌+◌, ◌*◌, ◌-◌, ◌%◌, ◌≤◌, ◌<◌}
use mathlib.Core.Path.{◌≡◌, ap, ◌∙◌}
use mathlib.Core.List.{List, [], ◌∷◌}
use native.Mathlib.Omega.{arith}
use native.Mathlib.Nat.{mod-lt, add-mod_right}
use lib.Dec.{leb→le}
use lib.IntN.{pos}
use lib.ListN.{length}
use borrow.Author.Tests.{ltb-true}
use Rattle.lists.specs.Lists.{total}
use Rattle.lists.proofs.Cases.{by_order}
use Rattle.lists.proofs.Lowest.{lowest-in, lowest-le, lowest-first}
use Rattle.lists.proofs.Rotations.{mod_below, mod-above, opened-length, opened-at, opened-total}
use Rattle.pooling.specs.Limits.{most_ring_bins, most_ring_counts, Small}
use Rattle.segmentation.specs.Segments.{bin_at}
use Rattle.segmentation.specs.Ring.{opening, opened, ring_bin, line_place}

-- ---- the opening
pub opening-in : (h : List ℕ) → 1 ≤ length h → opening h < length h
unfolding opening
opening-in h n = omega (arith, lowest-in (length h - 1) (λ i. pos (bin_at h i)))

pub opening-lowest : (h : List ℕ) (b : ℕ) → b < length h → bin_at h (opening h) ≤ bin_at h b
unfolding opening
opening-lowest h b l = leb→le (bin_at h (opening h)) (bin_at h b) (lowest-le (length h - 1) (λ i. pos (bin_at h i)) b (omega arith)).le

pub opening-first : (h : List ℕ) (b : ℕ) → b < opening h → bin_at h (opening h) < bin_at h b
unfolding opening
opening-first h b l = ltb-true (bin_at h (opening h)) (bin_at h b) (lowest-first (length h - 1) (λ i. pos (bin_at h i)) b l)

-- ---- the opened line
pub ring-length : (h : List ℕ) → 1 ≤ length h → length (opened h) ≡ suc (length h)
unfolding opened
ring-length h n = opened-length h (opening h) (opening-in h n)

pub ring-bins : (h : List ℕ) → 1 ≤ length h → (i : ℕ) → i ≤ length h → bin_at (opened h) i ≡ bin_at h (ring_bin h i)
unfolding opened ring_bin
ring-bins h n i l = opened-at h (opening h) (opening-in h n) i 0 l

pub ring-total : (h : List ℕ) → 1 ≤ length h → total (opened h) ≡ total h + bin_at h (opening h)
unfolding opened
ring-total h n = opened-total h (opening h) (opening-in h n)

-- the lowest of two bins or more is at most half of all
pub ring-total-bound : (h : List ℕ) → 2 ≤ length h → 2 * total (opened h) ≤ 3 * total h
ring-total-bound h n = omega (arith, ring-total h (omega arith), opening-lowest h 0 (omega arith), opening-lowest h 1 n, first_two h n)
  where
    first_two : (h : List ℕ) → 2 ≤ length h → bin_at h 0 + bin_at h 1 ≤ total h
    first_two [] n = absurd (omega arith)
    first_two (x ∷ []) n = absurd (omega arith)
    first_two (x ∷ y ∷ h) n = omega arith

pub ring-small : (h : List ℕ) → 2 ≤ length h → length h ≤ most_ring_bins → total h ≤ most_ring_counts → Small (opened h)
ring-small h n l t = record { bins = omega (arith, ring-length h (omega arith)); counts = omega (arith, ring-total-bound h n) }

-- ---- the ring's numbers and the line's
module _ (h : List ℕ) (n : 1 ≤ length h) where
  pub ring_in : (i : ℕ) → ring_bin h i < length h
  unfolding ring_bin
  ring_in i = mod-lt (opening h + i) n

  -- a turn later
  pub ring-later : (i : ℕ) → ring_bin h (i + length h) ≡ ring_bin h i
  unfolding ring_bin
  ring-later i =
      let z : opening h + (i + length h) ≡ opening h + i + length h = omega arith in
      ap (λ (j : ℕ). j % length h) z ∙ add-mod_right (opening h + i) (length h)

  -- each way back
  pub place_in : (b : ℕ) → line_place h b < length h
  unfolding line_place
  place_in b = mod-lt (b + length h - opening h) n

  pub place-bin : (b : ℕ) → b < length h → ring_bin h (line_place h b) ≡ b
  unfolding line_place ring_bin
  place-bin b l = by_order b (opening h) before after
    where
      before : b < opening h → (opening h + (b + length h - opening h) % length h) % length h ≡ b
      before u =
          let o = opening-in h n in
          let e : opening h + (b + length h - opening h) ≡ b + length h = omega arith in
          ap (λ (i : ℕ). (opening h + i) % length h) (mod_below (b + length h - opening h) (length h) (omega arith))
          ∙ ap (λ (i : ℕ). i % length h) e ∙ mod-above (b + length h) (length h) (omega arith) (omega arith) ∙ omega arith

      after : opening h ≤ b → (opening h + (b + length h - opening h) % length h) % length h ≡ b
      after u =
          let o = opening-in h n in
          let e : opening h + (b + length h - opening h - length h) ≡ b = omega arith in
          ap (λ (i : ℕ). (opening h + i) % length h) (mod-above (b + length h - opening h) (length h) (omega arith) (omega arith))
          ∙ ap (λ (i : ℕ). i % length h) e ∙ mod_below b (length h) l

  pub bin-place : (i : ℕ) → i < length h → line_place h (ring_bin h i) ≡ i
  unfolding line_place ring_bin
  bin-place i l = by_order (opening h + i) (length h) before after
    where
      before : opening h + i < length h → ((opening h + i) % length h + length h - opening h) % length h ≡ i
      before u =
          let o = opening-in h n in
          let e : opening h + i + length h - opening h ≡ i + length h = omega arith in
          ap (λ (b : ℕ). (b + length h - opening h) % length h) (mod_below (opening h + i) (length h) u)
          ∙ ap (λ (j : ℕ). j % length h) e ∙ mod-above (i + length h) (length h) (omega arith) (omega arith) ∙ omega arith

      after : length h ≤ opening h + i → ((opening h + i) % length h + length h - opening h) % length h ≡ i
      after u =
          let o = opening-in h n in
          let e : opening h + i - length h + length h - opening h ≡ i = omega arith in
          ap (λ (b : ℕ). (b + length h - opening h) % length h) (mod-above (opening h + i) (length h) u (omega arith))
          ∙ ap (λ (j : ℕ). j % length h) e ∙ mod_below i (length h) l
