-- The whole of a stretch weighs 0, since its fitted mass is its count. So where its bar is 0 or less its cost is 0 or more. Assumes nothing.
use Prim.Native.Nat.{ℕ, suc, ◌*◌, ◌-◌, ◌≤◌, ◌<◌}
use mathlib.Core.Path.{◌≡◌, refl, ap, ◌∙◌}
use mathlib.Core.List.{List}
use native.Mathlib.Omega.{arith}
use native.Mathlib.Nat.{eq_of_mul-eq-mul_right}
use lib.IntN.{pos}
use lib.ListN.{length, take}
use lib.Seq.{take-length}
use lib.Signed.{◌≤ℤ◌}
use Rattle.lists.specs.Lists.{total, part}
use Rattle.lists.proofs.Signed.{le-trans-ℤ}
use Rattle.lists.proofs.Sums.{total-part, total-part-le}
use Rattle.lists.proofs.Thresholds.{less-reaches}
use Rattle.pooling.specs.Blocks.{Direction, blocks}
use Rattle.pooling.proofs.Gap.{levels, Splits}
use Rattle.pooling.proofs.FittedLevels.{levels-length, levels-total}
use Rattle.pooling.proofs.Laws.{blocks-cut}
use Rattle.pooling.proofs.Always.{blocks-split}
use Rattle.verdict.specs.Test.{Closeness, fitted_mass, part_weight, bar, largest_weight, cost}
use Rattle.verdict.proofs.Terms.{weight-zero}
use Rattle.verdict.proofs.Masses.{mass-levels}
use Rattle.verdict.proofs.Largest.{part-largest}

-- the part from the first to the last member
whole_part : (n : ℕ) (xs : List ℕ) → 1 ≤ n → length xs ≡ n → total (part 0 (n - 1) xs) ≡ total xs
whole_part n xs some e =
    let z : suc (n - 1) ≡ length xs = omega arith in
    omega (arith, total-part 0 (n - 1) xs (omega arith), ap (λ (k : ℕ). total (take k xs)) z ∙ ap total (take-length xs))

module _ (w : Direction) (h : List ℕ) (some : 1 ≤ length h) where
  whole-mass : (fitted_mass h (blocks w h) 0 (length h - 1)).num ≡ total h * (fitted_mass h (blocks w h) 0 (length h - 1)).den
  whole-mass = let s = blocks-split w h in over s.0 s.1 s.2
    where
      over : (D : ℕ) → 0 < D → Splits D (blocks w h)
          → (fitted_mass h (blocks w h) 0 (length h - 1)).num ≡ total h * (fitted_mass h (blocks w h) 0 (length h - 1)).den
      over D more v =
          let k = blocks-cut w h in
          let e = whole_part (length h) (levels D (blocks w h)) some (levels-length D k) ∙ levels-total D k v in
          eq_of_mul-eq-mul_right D more _ _
          (mass-levels k 0 (length h - 1) (omega arith) (omega arith) D v
          ∙ ap (λ (z : ℕ). (fitted_mass h (blocks w h) 0 (length h - 1)).den * z) e ∙ omega arith)

  pub whole-weight : part_weight h (blocks w h) 0 (length h - 1) ≡ pos 0
  unfolding part_weight
  whole-weight =
      let e = whole_part (length h) h some refl in
      weight-zero (total h) (total (part 0 (length h - 1) h)) (fitted_mass h (blocks w h) 0 (length h - 1))
      (rw e whole-mass) (total-part-le 0 (length h - 1) h (omega arith))

  -- the weight of the whole reaches a bar of 0 or less
  pub low-bar-cost : (e : Closeness) → bar e (length h) ≤ℤ pos 0 → pos 0 ≤ℤ cost e w h
  unfolding cost
  low-bar-cost e low =
      let top = largest_weight h (blocks w h) in
      let l : pos 0 ≤ℤ top = rw whole-weight at (part-largest h (blocks w h) 0 (length h - 1) (omega arith) (omega arith)) in
      let b : bar e (length h) ≤ℤ top = le-trans-ℤ (bar e (length h)) (pos 0) top low l in
      record { le = rw (less-reaches top (bar e (length h))) b.le }
