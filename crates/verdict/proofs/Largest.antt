-- The largest weight of a stretch is that of some part, and no part has a larger one. Assumes nothing.
use Prim.Native.Nat.{ℕ, ◌-◌, ◌≤◌, ◌<◌}
use mathlib.Core.Path.{◌≡◌, ◌∙◌}
use mathlib.Core.List.{List}
use native.Mathlib.Omega.{arith}
use lib.ListN.{length}
use lib.Signed.{◌≤ℤ◌}
use Rattle.lists.specs.Lists.{largest}
use Rattle.lists.proofs.Signed.{le-trans-ℤ, largest-is, largest-above}
use Rattle.pooling.specs.declared.Block.{Block}
use Rattle.verdict.specs.Test.{part_weight, largest_weight}

module _ (h : List ℕ) (bs : List Block) where
  pub largest-part : 0 < length h → (i : ℕ) × (j : ℕ) × (i ≤ j) × (j < length h) × (largest_weight h bs ≡ part_weight h bs i j)
  unfolding largest_weight
  largest-part some =
      let outer = largest-is (length h - 1) (λ j. largest j (λ i. part_weight h bs i j)) in
      let j = outer.0 in
      let inner = largest-is j (λ i. part_weight h bs i j) in
      (inner.0, j, inner.1, inside outer.1, outer.2 ∙ inner.2)
    where
      inside : {j : ℕ} → j ≤ length h - 1 → j < length h
      inside l = omega arith

  pub part-largest : (i j : ℕ) → i ≤ j → j < length h → part_weight h bs i j ≤ℤ largest_weight h bs
  unfolding largest_weight
  part-largest i j k l =
      le-trans-ℤ (part_weight h bs i j) (largest j (λ i. part_weight h bs i j)) (largest_weight h bs)
      (largest-above j (λ i. part_weight h bs i j) i k)
      (largest-above (length h - 1) (λ j. largest j (λ i. part_weight h bs i j)) j (omega arith))
