-- The terms of a weight and of a bar: what they are, and that each logarithm is taken of a number in its range. Assumes nothing.
--   Ranged k x    x is in the range if its factor k is not 0
use Prim.Native.Nat.{ℕ, zero, suc, ◌+◌, ◌*◌, ◌-◌, ◌/◌, ◌^◌, ◌≤◌, ◌<◌}
use mathlib.Core.Path.{◌≡◌, refl, sym, ap, ◌∙◌}
use native.Mathlib.Nat.{le_refl, sub-zero, sub_self, zero-mul, zero-add, add-zero, mul-le-mul, mul-le-mul_right, mul-pos, lt_of_le_of_lt}
use native.Mathlib.Omega.{arith}
use lib.IntN.{pos, sub_ℕ, +ℤ_invr}
use Rattle.lists.proofs.Signed.{difference-is}
use Rattle.logarithm.specs.Log.{Loggable, lg}
use Rattle.pooling.specs.Limits.{most_bins}
use Rattle.verdict.specs.declared.Mass.{Mass}
use Rattle.verdict.specs.Test.{weight}
use Rattle.verdict.specs.Exactness.{LogsDefined}

-- the two sums of logarithms of a weight: of X and of Y
abbrev pub observed_log : ℕ → ℕ → Mass → ℕ
observed_log n k m = k * lg (k * m.den) + (n - k) * lg ((n - k) * m.den)

abbrev pub expected_log : ℕ → ℕ → Mass → ℕ
expected_log n k m = k * lg m.num + (n - k) * lg (n * m.den - m.num)

-- ---- a weight with fewer terms
module _ (n k : ℕ) (m : Mass) where
  -- of a fitted mass that is the count, A = kB
  pub weight-zero : m.num ≡ k * m.den → k ≤ n → weight n k m ≡ pos 0
  unfolding weight
  weight-zero e l =
      let d : (n - k) + k ≡ n = omega arith in
      let r : n * m.den - m.num ≡ (n - k) * m.den = omega (arith, ap (λ (z : ℕ). z * m.den) d) in
      let x = k * lg (k * m.den) + (n - k) * lg ((n - k) * m.den) in
      rw (r, e) (sym (difference-is x x) ∙ +ℤ_invr (pos x))

  -- of no counts, and of all
  pub weight-none : k ≡ 0 → weight n k m ≡ sub_ℕ (n * lg (n * m.den)) (n * lg (n * m.den - m.num))
  unfolding weight
  weight-none e = rw e (simp (zero-mul, zero-add, sub-zero))

  pub weight-all : k ≡ n → weight n k m ≡ sub_ℕ (k * lg (k * m.den)) (k * lg m.num)
  unfolding weight
  weight-all e = rw e (simp (sub_self, zero-mul, add-zero))

-- ---- what a weight's logarithms are taken of
pub record Ranged (k x : ℕ) : Type 0 where
  pub some : 0 < k → 0 < x
  pub below : x < 2 ^ 32

pub loggable : {k x : ℕ} → Ranged k x → 0 < k → Loggable x
loggable r h = record { low = r.some h; high = r.below }

module _ (n k : ℕ) (m : Mass) (r : LogsDefined n k m) where
  -- j of the n counts, times B
  pub counted : (j : ℕ) → j ≤ n → Ranged j (j * m.den)
  counted j l = record { some = λ p. mul-pos p r.positive; below = lt_of_le_of_lt (mul-le-mul_right m.den l) r.below }

  pub massed : Ranged k m.num
  massed = record { some = r.some_mass; below = lt_of_le_of_lt r.within r.below }

  pub remaining : Ranged (n - k) (n * m.den - m.num)
  remaining = record { some = λ p. left (r.some_rest (omega arith)); below = omega (arith, r.below) }
    where
      left : m.num < n * m.den → 0 < n * m.den - m.num
      left h = omega arith

  -- no counts in the part, all of them, and some but not all
  pub logged_none : k ≡ 0 → ¬ (m.num ≡ k * m.den) → Loggable (n * m.den) × Loggable (n * m.den - m.num)
  logged_none z d = let l : k < n = counts n refl in (loggable (counted n (le_refl n)) (omega arith), loggable remaining (omega arith))
    where
      counts : (c : ℕ) → n ≡ c → k < n
      counts zero e = absurd (d (omega (arith, r.within, ap (λ (x : ℕ). x * m.den) e, ap (λ (x : ℕ). x * m.den) z)))
      counts (suc c) e = omega arith

  pub logged-all : k ≡ n → ¬ (k ≡ 0) → Loggable (k * m.den) × Loggable m.num
  logged-all e d = let h : 0 < k = omega arith in (loggable (counted k r.partial) h, loggable massed h)

  pub logged-both : ¬ (k ≡ 0) → ¬ (k ≡ n)
      → (Loggable (k * m.den) × Loggable m.num) × (Loggable ((n - k) * m.den) × Loggable (n * m.den - m.num))
  logged-both a b =
      let h : 0 < k = omega arith in
      let u : 0 < n - k = omega (arith, r.partial) in (
        (loggable (counted k r.partial) h, loggable massed h),
        (loggable (counted (n - k) (omega arith)) u, loggable remaining u),
      )

-- ---- the number of a stretch's parts
pub parts-range : (l : ℕ) → 1 ≤ l → l ≤ most_bins → Loggable (l * suc l / 2)
parts-range l h k =
    let more : suc l ≤ suc most_bins = omega arith in
    let some : 2 ≤ suc l = omega arith in
    let up : l * suc l ≤ most_bins * suc most_bins = mul-le-mul k more in
    let low : 1 * 2 ≤ l * suc l = mul-le-mul h some in
    record { low = omega arith; high = omega arith }
