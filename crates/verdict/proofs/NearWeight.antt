-- A part whose count is near its fitted mass has a small weight. With D = A·(NB − A) and d = |kB − A|, X·M^(S·N) ≤ Y·(M + 1)^(S·N) for two pairs of M and S
-- (`Steps`); so where S·H ≤ M·c the weight is at most 2N + 3·c·N·units/2H. Assumes nothing.
use Prim.Native.Nat.{ℕ, suc, ◌+◌, ◌*◌, ◌-◌, ◌^◌, ◌≤◌, ◌<◌}
use mathlib.Core.Path.{◌≡◌, sym, ap, ◌∙◌}
use mathlib.Core.Logic.{inl, inr}
use lib.Dec.{ltb, le→leb}
use lib.IntN.{ℤ, pos, negsuc, sub_ℕ}
use lib.Signed.{◌≤ℤ◌}
use lib.Pow.{pow-add, pow-lt}
use native.Mathlib.Omega.{arith}
use native.Mathlib.Nat.{mul_left_comm, le_trans, le_of_eq, lt_of_le_of_lt, mul-le-mul_left, mul-le-mul_right, le_of_mul-le-mul_right, pow-le-pow_left, one-le-pow}
use Rattle.lists.proofs.Cases.{by_cond, by_order}
use Rattle.lists.proofs.Powers.{mul-pow, pow-pow, pow_lt_cancel}
use Rattle.logarithm.specs.Log.{units_per_bit}
use Rattle.verdict.specs.declared.Mass.{Mass}
use Rattle.verdict.specs.Test.{weight}
use Rattle.verdict.specs.Exactness.{observed, expected, LogsDefined}
use Rattle.verdict.specs.Near.{gap, fitted_room, count_room}
use Rattle.verdict.proofs.Terms.{observed_log, expected_log}
use Rattle.verdict.proofs.Band.{observed-low, expected-high}
use Rattle.verdict.proofs.Products.{products, turned}
use Rattle.verdict.proofs.Steps.{steps, Apart, in_one, in-steps}
use Rattle.verdict.proofs.Growth.{growth}

-- ---- raised to u and to e = 2H
lift : (a b s n u e : ℕ) → ((a * b ^ (s * n)) ^ u) ^ e ≡ (a ^ u) ^ e * (b ^ (s * e)) ^ (n * u)
lift a b s n u e =
    ap (λ (z : ℕ). z ^ e) (mul-pow a (b ^ (s * n)) u ∙ ap (λ (z : ℕ). a ^ u * z) (pow-pow b (s * n) u))
    ∙ mul-pow (a ^ u) (b ^ (s * n * u)) e
    ∙ ap (λ (z : ℕ). (a ^ u) ^ e * z) (pow-pow b (s * n * u) e ∙ ap (λ (z : ℕ). b ^ z) (regrouped s n u e) ∙ sym (pow-pow b (s * e) (n * u)))
  where
    regrouped : (s n u e : ℕ) → s * n * u * e ≡ s * e * (n * u)
    regrouped s n u e = simp products

raised : (X Y M s q c n u : ℕ) → 0 < M → X * M ^ (s * n) ≤ Y * suc M ^ (s * n) → s * (16 * q) ≤ M * c → (X ^ u) ^ (q * 32) ≤ (Y ^ u) ^ (q * 32) * 2 ^ (3 * (c * (n * u)))
raised X Y M s q c n u p h k =
    let e = q * 32 in
    le_of_mul-le-mul_right {k = (M ^ (s * e)) ^ (n * u)}
    (le_trans (le_of_eq (sym (lift X M s n u e)))
    (le_trans (pow-le-pow_left (pow-le-pow_left h u) e)
    (le_trans (le_of_eq (lift Y (suc M) s n u e))
    (le_trans (mul-le-mul_left ((Y ^ u) ^ e) (pow-le-pow_left (growth M c (s * e) p (omega arith)) (n * u)))
    (le_of_eq
    (ap (λ (z : ℕ). (Y ^ u) ^ e * z) (mul-pow (M ^ (s * e)) (8 ^ c) (n * u) ∙ ap (λ (z : ℕ). (M ^ (s * e)) ^ (n * u) * z) (pow-pow 8 c (n * u) ∙ pow-pow 2 3 (c * (n * u))))
    ∙ turned ((Y ^ u) ^ e) ((M ^ (s * e)) ^ (n * u)) (2 ^ (3 * (c * (n * u))))))))))
    (one-le-pow (n * u) (M ^ (s * e)) (one-le-pow (s * e) M p))

-- ---- back to the exponents
pow-le-cancel : (i j : ℕ) → 2 ^ i ≤ 2 ^ j → i ≤ j
pow-le-cancel i j h = let l = pow_lt_cancel i (suc j) (lt_of_le_of_lt h (pow-lt (omega arith))) in omega arith

-- o and f are the logarithms of X and Y, b the best so far
exponents : (x y o f n w e b : ℕ) → 0 < e → 2 ^ o ≤ x → y ≤ 2 ^ (f + 2 * n) → x ^ e ≤ y ^ e * 2 ^ w → w + 2 * n * e ≤ b * e → o ≤ f + b
exponents x y o f n w e b p hx hy h room =
    let l : o * e ≤ (f + 2 * n) * e + w = pow-le-cancel (o * e) ((f + 2 * n) * e + w)
    (le_trans (le_of_eq (sym (pow-pow 2 o e)))
    (le_trans (pow-le-pow_left hx e)
    (le_trans h
    (le_trans (mul-le-mul_right (2 ^ w) (pow-le-pow_left hy e))
    (le_of_eq (ap (λ (z : ℕ). z * 2 ^ w) (pow-pow 2 (f + 2 * n) e) ∙ sym (pow-add 2 ((f + 2 * n) * e) w))))))) in
    le_of_mul-le-mul_right {k = e} (omega arith) p

difference-at-most : (p m b : ℕ) → p ≤ m + b → sub_ℕ p m ≤ℤ pos b
difference-at-most p m b h =
    by_cond (λ (z : ℤ). z ≤ℤ pos b) (ltb p m) (negsuc (m - suc p)) (pos (p - m))
    (λ e. record { le = tt })
    (λ e. record { le = le→leb (p - m) b (omega arith) })

-- ---- a part
module _ (n k : ℕ) (m : Mass) (r : LogsDefined n k m) where
  all-counts : k + (n - k) ≡ n
  all-counts = omega (arith, r.partial)

  -- the counts and the fitted masses, of the part and of the rest
  apart : Apart (k * m.den) ((n - k) * m.den) m.num (n * m.den - m.num) (gap k m)
  apart =
      let sum : k * m.den + (n - k) * m.den ≡ n * m.den = omega (arith, ap (λ (z : ℕ). z * m.den) all-counts) in
      by_order (k * m.den) m.num (λ l. inr (omega arith, omega (arith, r.within))) (λ l. inl (omega arith, omega (arith, r.within)))

  -- by one step
  pub observed-one : 0 < fitted_room n m → observed n k m * fitted_room n m ^ (gap k m * gap k m * n) ≤ expected n k m * suc (fitted_room n m) ^ (gap k m * gap k m * n)
  unfolding observed expected
  observed-one some =
      rw all-counts at (in_one k (n - k) (k * m.den) ((n - k) * m.den) m.num (n * m.den - m.num) (gap k m) (mul_left_comm k (n - k) m.den) some apart)

  -- by steps of 1
  pub observed-steps : (M : ℕ) → 0 < M → M ≤ fitted_room n m → M ≤ count_room n k m → observed n k m * M ^ (steps (gap k m) * n) ≤ expected n k m * suc M ^ (steps (gap k m) * n)
  unfolding observed expected
  observed-steps M some low high =
      let rest : n * m.den - k * m.den ≡ (n - k) * m.den = omega (arith, ap (λ (z : ℕ). z * m.den) all-counts) in
      rw all-counts at
      (in-steps k (n - k) (k * m.den) ((n - k) * m.den) m.num (n * m.den - m.num) (gap k m) M (mul_left_comm k (n - k) m.den) some low (rw rest at high) apart)

  -- the weight of a near part: H is 16q
  pub near-weight : (M s q c b : ℕ) → 0 < q → 0 < M → observed n k m * M ^ (s * n) ≤ expected n k m * suc M ^ (s * n) → s * (16 * q) ≤ M * c
      → 3 * (c * (n * units_per_bit)) + 2 * n * (q * 32) ≤ b * (q * 32) → weight n k m ≤ℤ pos b
  unfolding weight
  near-weight M s q c b p some h l room =
      difference-at-most (observed_log n k m) (expected_log n k m) b
      (exponents (observed n k m ^ units_per_bit) (expected n k m ^ units_per_bit) (observed_log n k m) (expected_log n k m) n (3 * (c * (n * units_per_bit))) (q * 32) b
      (omega arith) (observed-low n k m r) (expected-high n k m r) (raised (observed n k m) (expected n k m) M s q c n units_per_bit some h l) room)
