-- A weight is the sum of its two signed terms. Assumes nothing.
use Prim.Native.Nat.{ℕ, zero, suc, ◌+◌, ◌*◌, ◌-◌}
use mathlib.Core.Path.{◌≡◌, sym, ap, ◌∙◌}
use native.Mathlib.Nat.{zero-mul, mul-le-mul_left}
use native.Mathlib.Omega.{arith}
use lib.IntN.{ℤ, pos, sub_ℕ, neg_ℤ, ◌+ℤ◌, ◌*ℤ◌, +ℤ_assoc, +ℤ_comm, neg_ℤ-+ℤ, neg_ℤ-neg_ℤ}
use Rattle.lists.proofs.Differences.{by_sign, diff-above, diff-below}
use Rattle.lists.proofs.Signed.{difference-is}
use Rattle.logarithm.specs.Log.{lg}
use Rattle.verdict.specs.Test.{weight}
use Rattle.verdict.specs.Difference.{term, signed_weight, WeightByTerms}

-- the difference of two multiples
times-difference : (k a b : ℕ) → pos k *ℤ sub_ℕ a b ≡ sub_ℕ (k * a) (k * b)
times-difference k a b =
    by_sign (λ (z : ℤ). pos k *ℤ z ≡ sub_ℕ (k * a) (k * b)) a b
    (λ l. ap pos (above k a b (a - b) (omega arith)) ∙ sym (diff-above (k * a) (k * b) (mul-le-mul_left k l)))
    (λ l. ap (λ (n : ℕ). neg_ℤ (pos n)) (above k b a (suc (b - suc a)) (omega arith))
    ∙ ap neg_ℤ (sym (diff-below (k * a) (k * b) (mul-le-mul_left k (omega arith))))
    ∙ neg_ℤ-neg_ℤ (sub_ℕ (k * a) (k * b)))
  where
    above : (k x y d : ℕ) → x ≡ y + d → k * d ≡ k * x - k * y
    above k x y d e = omega (arith, ap (λ (z : ℕ). k * z) e)

-- the two in the middle change places
middle : (x y z w : ℤ) → (x +ℤ y) +ℤ (z +ℤ w) ≡ (x +ℤ z) +ℤ (y +ℤ w)
middle x y z w =
    +ℤ_assoc x y (z +ℤ w)
    ∙ ap (λ (t : ℤ). x +ℤ t) (sym (+ℤ_assoc y z w) ∙ ap (λ (t : ℤ). t +ℤ w) (+ℤ_comm y z) ∙ +ℤ_assoc z y w)
    ∙ sym (+ℤ_assoc x z (y +ℤ w))

-- the sum of two differences
sum-differences : (a b c d : ℕ) → sub_ℕ a b +ℤ sub_ℕ c d ≡ sub_ℕ (a + c) (b + d)
sum-differences a b c d =
    rw (← difference-is a b, ← difference-is c d, ← difference-is (a + c) (b + d))
    (middle (pos a) (neg_ℤ (pos b)) (pos c) (neg_ℤ (pos d)) ∙ ap (λ (t : ℤ). pos (a + c) +ℤ t) (sym (neg_ℤ-+ℤ (pos b) (pos d))))

term_is : (k x y : ℕ) → term k x y ≡ sub_ℕ (k * lg x) (k * lg y)
unfolding term
term_is zero x y = simp zero-mul
term_is (suc k) x y = ap (λ (z : ℤ). pos (suc k) *ℤ z) (difference-is (lg x) (lg y)) ∙ times-difference (suc k) (lg x) (lg y)

pub weight-by-terms : WeightByTerms
unfolding weight signed_weight
weight-by-terms n k m =
    let rest = n - k in
    sym (sum-differences (k * lg (k * m.den)) (k * lg m.num) (rest * lg (rest * m.den)) (rest * lg (n * m.den - m.num)))
    ∙ rw (← term_is k (k * m.den) m.num, ← term_is rest (rest * m.den) (n * m.den - m.num))
