-- Laws of valleys: a bin below the one before it is a valley exactly if the first step after it that is not level goes up. Assumes nothing.
use Prim.Native.Nat.{ℕ, suc, ◌-◌, ◌≤◌, ◌<◌}
use mathlib.Core.Path.{◌≡◌, refl, sym, ap, ◌∙◌}
use mathlib.Core.Bool.{Bool, true, false, cond, ◌&&◌, false≢true}
use mathlib.Core.List.{List}
use native.Mathlib.Omega.{arith}
use lib.Dec.{ltb, eqb}
use lib.ListN.{length, drop, drop_of_length-le}
use lib.Seq.{drop-cons}
use borrow.Author.Tests.{ltb-true, lt-ltb, le-ltb, eq-eqb, ne_eqb}
use Rattle.segmentation.specs.Segments.{bin_at, rises_above, is_valley}

-- the first step after bin j that is not level goes up
abbrev pub rises_after : List ℕ → ℕ → Bool
rises_after h j = rises_above (bin_at h j) (drop (suc j) h)

module _ (h : List ℕ) (j : ℕ) where
  rises-cons : suc j < length h → rises_after h j ≡ cond (eqb (bin_at h j) (bin_at h (suc j))) (rises_above (bin_at h j) (drop (suc (suc j)) h)) (ltb (bin_at h j) (bin_at h (suc j)))
  unfolding rises_above
  rises-cons l = ap (rises_above (bin_at h j)) (drop-cons h (suc j) 0 l)

  pub rises-level : suc j < length h → bin_at h (suc j) ≡ bin_at h j → rises_after h j ≡ rises_after h (suc j)
  rises-level l e = rises-cons l ∙ rw (eq-eqb (bin_at h j) (bin_at h (suc j)) (sym e)) (ap (λ (x : ℕ). rises_above x (drop (suc (suc j)) h)) (sym e))

  rises-step : suc j < length h → (bin_at h j ≡ bin_at h (suc j) → ⊥) → rises_after h j ≡ ltb (bin_at h j) (bin_at h (suc j))
  rises-step l e = rises-cons l ∙ rw (ne_eqb (bin_at h j) (bin_at h (suc j)) e)

  pub rises-up : suc j < length h → bin_at h j < bin_at h (suc j) → rises_after h j ≡ true
  rises-up l e = rises-step l (λ q. omega arith) ∙ lt-ltb (bin_at h j) (bin_at h (suc j)) e

  pub rises-down : suc j < length h → bin_at h (suc j) < bin_at h j → rises_after h j ≡ false
  rises-down l e = rises-step l (λ q. omega arith) ∙ le-ltb (bin_at h j) (bin_at h (suc j)) (omega arith)

  pub rises-end : length h ≤ suc j → rises_after h j ≡ false
  unfolding rises_above
  rises-end l = ap (rises_above (bin_at h j)) (drop_of_length-le h l)

  valley-step : suc j < length h → is_valley h (suc j) ≡ ltb (bin_at h (suc j)) (bin_at h j) && rises_after h (suc j)
  unfolding is_valley rises_above
  valley-step l =
      let z : suc j - 1 ≡ j = omega arith in
      rw (z, drop-cons h (suc j) 0 l, eq-eqb (bin_at h (suc j)) (bin_at h (suc j)) refl)

  pub valley-fell : suc j < length h → bin_at h (suc j) < bin_at h j → is_valley h (suc j) ≡ rises_after h (suc j)
  valley-fell l e = valley-step l ∙ rw (lt-ltb (bin_at h (suc j)) (bin_at h j) e)

  pub valley-not : suc j < length h → bin_at h j ≤ bin_at h (suc j) → is_valley h (suc j) ≡ false
  valley-not l e = valley-step l ∙ rw (le-ltb (bin_at h (suc j)) (bin_at h j) e)

  -- a valley lies below the bin before it, and a rise comes after it
  pub valley-is : suc j < length h → is_valley h (suc j) ≡ true → (bin_at h (suc j) < bin_at h j) × (rises_after h (suc j) ≡ true)
  valley-is l e = go (ltb (bin_at h (suc j)) (bin_at h j)) refl (sym (valley-step l) ∙ e)
    where
      go : (t : Bool) → ltb (bin_at h (suc j)) (bin_at h j) ≡ t → t && rises_after h (suc j) ≡ true → (bin_at h (suc j) < bin_at h j) × (rises_after h (suc j) ≡ true)
      go true q r = (ltb-true (bin_at h (suc j)) (bin_at h j) q, r)
      go false q r = absurd (false≢true r)
