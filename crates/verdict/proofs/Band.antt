-- The band of T8 and T9: a rejected stretch has a part above the bar minus 2N+2 units, and every part of an accepted one is below the bar plus 2N units.
-- Each logarithm is off by less than 2 units, and a weight has N of them on either side. Assumes nothing.
use Prim.Native.Nat.{ℕ, zero, suc, ◌+◌, ◌*◌, ◌-◌, ◌/◌, ◌^◌, ◌≤◌, ◌<◌}
use mathlib.Core.Path.{◌≡◌, refl, sym, ap, ◌∙◌}
use mathlib.Core.Bool.{Bool, true, false, ◌&&◌}
use mathlib.Core.List.{List}
use lib.Dec.{leb}
use lib.ListN.{length}
use lib.IntN.{ℤ, pos}
use lib.Signed.{le_z}
use lib.Pow.{pow-add, pow_pos, pow_mono, pow-lt}
use native.Mathlib.Omega.{arith}
use native.Mathlib.Nat.{mul_comm, mul-le-mul, mul-le-mul_left, mul-le-mul_right, mul-lt-mul_of_pos_right, le_trans, le_of_eq, le_of_lt, lt_of_le_of_lt, lt_of_lt_of_le, pow-zero, zero-mul, pow-le-pow_left}
use borrow.Author.Tests.{leb-true, leb-false}
use Rattle.lists.specs.Lists.{total, part}
use Rattle.lists.proofs.Powers.{mul-pow, pow-pow, pow-swap}
use Rattle.lists.proofs.Connectives.{both_true}
use Rattle.lists.proofs.Differences.{differences-reach}
use Rattle.lists.proofs.Thresholds.{less-reaches, below-misses}
use Rattle.logarithm.specs.Log.{units_per_bit, lg}
use Rattle.logarithm.specs.Bounds.{Bounded}
use Rattle.logarithm.proofs.Within.{always-bounded}
use Rattle.pooling.specs.Blocks.{Direction, blocks}
use Rattle.pooling.specs.Limits.{most_bins}
use Rattle.verdict.specs.declared.Mass.{Mass}
use Rattle.verdict.specs.Test.{Closeness, fitted_mass, weight, part_weight, bar, largest_weight, cost, step_against, rejected}
use Rattle.verdict.specs.Exactness.{observed, expected, power_above, power_below, exact_bar, LogsDefined, part_x, part_bar, ByMissingStep, Exact}
use Rattle.verdict.proofs.Terms.{observed_log, expected_log, Ranged, loggable, counted, massed, remaining, parts-range}
use Rattle.verdict.proofs.Largest.{largest-part, part-largest}
use Rattle.verdict.proofs.Settings.{up, down, bar-split, above_power, below_power}
use Rattle.verdict.proofs.Ordered.{none-monotone}

-- ---- a power of x against the factor times the logarithm
-- at factor 0 both sides are 1
none : (x : ℕ) → (x ^ 0) ^ units_per_bit ≡ 1
none x = pow-swap x 0 units_per_bit ∙ pow-zero (x ^ units_per_bit)

term-low : (k x : ℕ) → Ranged k x → 2 ^ (k * lg x) ≤ (x ^ k) ^ units_per_bit
term-low zero x r = le_of_eq (ap (λ (n : ℕ). 2 ^ n) (zero-mul (lg x)) ∙ pow-zero 2 ∙ sym (none x))
term-low (suc k) x r =
    le_trans (le_of_eq (ap (λ (n : ℕ). 2 ^ n) (mul_comm (suc k) (lg x)) ∙ sym (pow-pow 2 (lg x) (suc k))))
    (le_trans (pow-le-pow_left (always-bounded x (loggable r (omega arith))).low (suc k)) (le_of_eq (pow-swap x units_per_bit (suc k))))

term-high : (k x : ℕ) → Ranged k x → (x ^ k) ^ units_per_bit ≤ 2 ^ (k * lg x + 2 * k)
term-high zero x r = le_trans (le_of_eq (none x)) (pow_pos (0 * lg x + 2 * 0))
term-high (suc k) x r =
    le_trans (le_of_eq (pow-swap x (suc k) units_per_bit))
    (le_trans (pow-le-pow_left (le_of_lt (always-bounded x (loggable r (omega arith))).high) (suc k))
    (le_of_eq (pow-pow 2 (lg x + 2) (suc k) ∙ ap (λ (n : ℕ). 2 ^ n) (spread (lg x)))))
  where
    spread : (l : ℕ) → (l + 2) * suc k ≡ suc k * l + 2 * suc k
    spread l = omega arith

-- ---- the two terms of a weight's sum
module _ (n k x y : ℕ) (fits : k ≤ n) (first : Ranged k x) (rest : Ranged (n - k) y) where
  pair-low : 2 ^ (k * lg x + (n - k) * lg y) ≤ (x ^ k * y ^ (n - k)) ^ units_per_bit
  pair-low =
      le_trans (le_of_eq (pow-add 2 (k * lg x) ((n - k) * lg y)))
      (le_trans (mul-le-mul (term-low k x first) (term-low (n - k) y rest)) (le_of_eq (sym (mul-pow (x ^ k) (y ^ (n - k)) units_per_bit))))

  pair-high : (x ^ k * y ^ (n - k)) ^ units_per_bit ≤ 2 ^ (k * lg x + (n - k) * lg y + 2 * n)
  pair-high =
      le_trans (le_of_eq (mul-pow (x ^ k) (y ^ (n - k)) units_per_bit))
      (le_trans (mul-le-mul (term-high k x first) (term-high (n - k) y rest))
      (le_of_eq (sym (pow-add 2 (k * lg x + 2 * k) ((n - k) * lg y + 2 * (n - k))) ∙ ap (λ (m : ℕ). 2 ^ m) (gathered (k * lg x) ((n - k) * lg y)))))
    where
      gathered : (a b : ℕ) → a + 2 * k + (b + 2 * (n - k)) ≡ a + b + 2 * n
      gathered a b = omega arith

module _ (n k : ℕ) (m : Mass) (r : LogsDefined n k m) where
  pub observed-low : 2 ^ observed_log n k m ≤ observed n k m ^ units_per_bit
  unfolding observed
  observed-low = pair-low n k (k * m.den) ((n - k) * m.den) r.partial (counted n k m r k r.partial) (counted n k m r (n - k) (omega arith))

  observed-high : observed n k m ^ units_per_bit ≤ 2 ^ (observed_log n k m + 2 * n)
  unfolding observed
  observed-high = pair-high n k (k * m.den) ((n - k) * m.den) r.partial (counted n k m r k r.partial) (counted n k m r (n - k) (omega arith))

  expected-low : 2 ^ expected_log n k m ≤ expected n k m ^ units_per_bit
  unfolding expected
  expected-low = pair-low n k m.num (n * m.den - m.num) r.partial (massed n k m r) (remaining n k m r)

  pub expected-high : expected n k m ^ units_per_bit ≤ 2 ^ (expected_log n k m + 2 * n)
  unfolding expected
  expected-high = pair-high n k m.num (n * m.den - m.num) r.partial (massed n k m r) (remaining n k m r)

-- ---- the bar is the difference of two numbers: the logarithm of the exact bar, and the bits of a negative closeness
abbrev raised_log : Closeness → ℕ → ℕ
raised_log e l = lg (l * suc l / 2) + up e * units_per_bit

weight-reaches : (e : Closeness) (l n k : ℕ) (m : Mass)
    → le_z (bar e l) (weight n k m) ≡ leb (raised_log e l + expected_log n k m) (observed_log n k m + down e * units_per_bit)
unfolding weight
weight-reaches e l n k m =
    ap (λ (z : ℤ). le_z z (weight n k m)) (bar-split e l) ∙ differences-reach (raised_log e l) (down e * units_per_bit) (observed_log n k m) (expected_log n k m)

-- ---- the exact bar; l bins have l(l+1)/2 parts, within the logarithm's range
module _ (e : Closeness) (l : ℕ) (least : 1 ≤ l) (most : l ≤ most_bins) where
  parts-bounded : Bounded (l * suc l / 2)
  parts-bounded = always-bounded (l * suc l / 2) (parts-range l least most)

  split : exact_bar e l ^ units_per_bit ≡ 2 ^ (up e * units_per_bit) * (l * suc l / 2) ^ units_per_bit
  unfolding exact_bar
  split = mul-pow (power_above e) (l * suc l / 2) units_per_bit ∙ ap (λ (k : ℕ). k * (l * suc l / 2) ^ units_per_bit) (above_power e)

  bar-low : 2 ^ raised_log e l ≤ exact_bar e l ^ units_per_bit
  bar-low =
      le_trans (le_of_eq (pow-add 2 (lg (l * suc l / 2)) (up e * units_per_bit) ∙ mul_comm (2 ^ lg (l * suc l / 2)) (2 ^ (up e * units_per_bit))))
      (le_trans (mul-le-mul_left (2 ^ (up e * units_per_bit)) parts-bounded.low) (le_of_eq (sym split)))

  bar-high : exact_bar e l ^ units_per_bit < 2 ^ (raised_log e l + 2)
  bar-high =
      lt_of_le_of_lt (le_of_eq (split ∙ mul_comm (2 ^ (up e * units_per_bit)) ((l * suc l / 2) ^ units_per_bit)))
      (lt_of_lt_of_le (mul-lt-mul_of_pos_right parts-bounded.high (pow_pos (up e * units_per_bit)))
      (le_of_eq (sym (pow-add 2 (lg (l * suc l / 2) + 2) (up e * units_per_bit)) ∙ ap (λ (n : ℕ). 2 ^ n) (turned (lg (l * suc l / 2)) (up e * units_per_bit)))))
    where
      turned : (a b : ℕ) → a + 2 + b ≡ a + b + 2
      turned a b = omega arith

-- ---- X with the power of two of a negative closeness
module _ (e : Closeness) (n k : ℕ) (m : Mass) (r : LogsDefined n k m) where
  apart : (power_below e * observed n k m) ^ units_per_bit ≡ observed n k m ^ units_per_bit * 2 ^ (down e * units_per_bit)
  apart =
      mul-pow (power_below e) (observed n k m) units_per_bit ∙ ap (λ (x : ℕ). x * observed n k m ^ units_per_bit) (below_power e)
      ∙ mul_comm (2 ^ (down e * units_per_bit)) (observed n k m ^ units_per_bit)

  lowered-low : 2 ^ (observed_log n k m + down e * units_per_bit) ≤ (power_below e * observed n k m) ^ units_per_bit
  lowered-low =
      le_trans (le_of_eq (pow-add 2 (observed_log n k m) (down e * units_per_bit)))
      (le_trans (mul-le-mul_right (2 ^ (down e * units_per_bit)) (observed-low n k m r)) (le_of_eq (sym apart)))

  lowered-high : (power_below e * observed n k m) ^ units_per_bit ≤ 2 ^ (observed_log n k m + down e * units_per_bit + 2 * n)
  lowered-high =
      le_trans (le_of_eq apart)
      (le_trans (mul-le-mul_right (2 ^ (down e * units_per_bit)) (observed-high n k m r))
      (le_of_eq (sym (pow-add 2 (observed_log n k m + 2 * n) (down e * units_per_bit)) ∙ ap (λ (x : ℕ). 2 ^ x) (turned (observed_log n k m) (down e * units_per_bit)))))
    where
      turned : (a b : ℕ) → a + 2 * n + b ≡ a + b + 2 * n
      turned a b = omega arith

-- ---- the two bands: x, y and b lie around 2^p, 2^m and 2^t
band-above : (p m t n x y b : ℕ) → m + t ≤ p → 2 ^ p ≤ x → y ≤ 2 ^ (m + 2 * n) → b < 2 ^ (t + 2) → b * y < x * 2 ^ (2 * n + 2)
band-above p m t n x y b h lx hy hb =
    lt_of_le_of_lt (mul-le-mul_left b hy)
    (lt_of_lt_of_le (mul-lt-mul_of_pos_right hb (pow_pos (m + 2 * n)))
    (le_trans (le_of_eq (sym (pow-add 2 (t + 2) (m + 2 * n))))
    (le_trans (pow_mono (moved)) (le_trans (le_of_eq (pow-add 2 p (2 * n + 2))) (mul-le-mul_right (2 ^ (2 * n + 2)) lx)))))
  where
    moved : t + 2 + (m + 2 * n) ≤ p + (2 * n + 2)
    moved = omega arith

band-below : (p m t n x y b : ℕ) → p < m + t → x ≤ 2 ^ (p + 2 * n) → 2 ^ m ≤ y → 2 ^ t ≤ b → x < b * y * 2 ^ (2 * n)
band-below p m t n x y b h hx ly lb =
    lt_of_le_of_lt hx
    (lt_of_lt_of_le (pow-lt moved)
    (le_trans (le_of_eq (pow-add 2 (t + m) (2 * n) ∙ ap (λ (k : ℕ). k * 2 ^ (2 * n)) (pow-add 2 t m))) (mul-le-mul_right (2 ^ (2 * n)) (mul-le-mul lb ly))))
  where
    moved : p + 2 * n < t + m + 2 * n
    moved = omega arith

-- ---- one part: its weight reaches the bar, or does not
module _ (e : Closeness) (l n k : ℕ) (m : Mass) (least : 1 ≤ l) (most : l ≤ most_bins) (r : LogsDefined n k m) where
  weight-above : le_z (bar e l) (weight n k m) ≡ true
      → (exact_bar e l * expected n k m) ^ units_per_bit < (power_below e * observed n k m) ^ units_per_bit * 2 ^ (2 * n + 2)
  weight-above q =
      rw (mul-pow (exact_bar e l) (expected n k m) units_per_bit)
      (band-above (observed_log n k m + down e * units_per_bit) (expected_log n k m) (raised_log e l) n
      ((power_below e * observed n k m) ^ units_per_bit) (expected n k m ^ units_per_bit) (exact_bar e l ^ units_per_bit)
      (turned (raised_log e l) (expected_log n k m) (observed_log n k m + down e * units_per_bit) (leb-true _ _ (sym (weight-reaches e l n k m) ∙ q)))
      (lowered-low e n k m r) (expected-high n k m r) (bar-high e l least most))
    where
      turned : (a b c : ℕ) → a + b ≤ c → b + a ≤ c
      turned a b c h = omega arith

  weight-below : le_z (bar e l) (weight n k m) ≡ false
      → (power_below e * observed n k m) ^ units_per_bit < (exact_bar e l * expected n k m) ^ units_per_bit * 2 ^ (2 * n)
  weight-below q =
      rw (mul-pow (exact_bar e l) (expected n k m) units_per_bit)
      (band-below (observed_log n k m + down e * units_per_bit) (expected_log n k m) (raised_log e l) n
      ((power_below e * observed n k m) ^ units_per_bit) (expected n k m ^ units_per_bit) (exact_bar e l ^ units_per_bit)
      (turned (raised_log e l) (expected_log n k m) (observed_log n k m + down e * units_per_bit) (leb-false _ _ (sym (weight-reaches e l n k m) ∙ q)))
      (lowered-high e n k m r) (expected-low n k m r) (bar-low e l least most))
    where
      turned : (a b c : ℕ) → c < a + b → c < b + a
      turned a b c h = omega arith

-- ---- the stretch: its largest weight reaches the bar, or does not
module _ (e : Closeness) (w : Direction) (h : List ℕ) where
  cost-reaches : le_z (pos 0) (cost e w h) ≡ le_z (bar e (length h)) (largest_weight h (blocks w h))
  unfolding cost
  cost-reaches = less-reaches (largest_weight h (blocks w h)) (bar e (length h))

  rejects : rejected e w h ≡ true → le_z (bar e (length h)) (largest_weight h (blocks w h)) ≡ true
  unfolding rejected
  rejects q = sym cost-reaches ∙ (both_true (step_against w h) (le_z (pos 0) (cost e w h)) q).1

  accepts : rejected e w h ≡ false → ¬ ByMissingStep e w h → le_z (bar e (length h)) (largest_weight h (blocks w h)) ≡ false
  unfolding rejected
  accepts q n = sym cost-reaches ∙ go (step_against w h) (le_z (pos 0) (cost e w h)) refl refl q
    where
      go : (a c : Bool) → step_against w h ≡ a → le_z (pos 0) (cost e w h) ≡ c → (a && c) ≡ false → c ≡ false
      go a false s t z = refl
      go false true s t z = absurd (n (record { along = none-monotone w h s; dear = record { le = rw t tt } }))
      go true true s t z = z

pub exact : (e : Closeness) (w : Direction) (h : List ℕ) → 1 ≤ length h → length h ≤ most_bins
    → ((i j : ℕ) → i ≤ j → j < length h → LogsDefined (total h) (total (part i j h)) (fitted_mass h (blocks w h) i j)) → Exact e w h
unfolding part_weight part_x part_bar
exact e w h least most ranges =
    record {
      rejection = λ q.
          let found = largest-part h (blocks w h) least in
          let i = found.0 in
          let j = found.1 in
          let reaches = ap (λ (z : ℤ). le_z (bar e (length h)) z) (sym found.4) ∙ rejects e w h q in (
            i,
            j,
            record {
              ends = (found.2, found.3);
              above = weight-above e (length h) (total h) (total (part i j h)) (fitted_mass h (blocks w h) i j) least most (ranges i j found.2 found.3) reaches;
            },
          );
      acceptance = λ q n i j k l. record {
        below = weight-below e (length h) (total h) (total (part i j h)) (fitted_mass h (blocks w h) i j) least most (ranges i j k l)
            (below-misses (bar e (length h)) (part_weight h (blocks w h) i j) (largest_weight h (blocks w h)) (part-largest h (blocks w h) i j k l) (accepts e w h q n));
      };
    }
