-- A closeness of either sign as two natural numbers, and the bar as one difference. Assumes nothing.
--   up, down      how far a closeness is above 0, and below
--   setting       how far a closeness that a call takes lies above the least one: from 0 to 30
--   Counted       the setting of such a closeness
use Prim.Native.Nat.{ℕ, suc, ◌+◌, ◌*◌, ◌-◌, ◌/◌, ◌^◌, ◌≤◌, ◌<◌}
use mathlib.Core.Path.{◌≡◌, refl, sym, ap, ◌∙◌}
use lib.Dec.{leb→le}
use lib.IntN.{ℤ, pos, negsuc, sub_ℕ, ◌-ℤ◌, nat_abs}
use native.Mathlib.Omega.{arith}
use native.Mathlib.Nat.{pow-zero, zero-mul, add-zero}
use Rattle.lists.proofs.Differences.{by_sign, diff-above, same-difference}
use Rattle.lists.proofs.Powers.{pow-pow}
use Rattle.lists.proofs.Signed.{difference-is}
use Rattle.logarithm.specs.Log.{lg, units_per_bit}
use Rattle.verdict.specs.Test.{Closeness, least_closeness, most_closeness, bar}
use Rattle.verdict.specs.Settings.{Offered}
use Rattle.verdict.specs.Exactness.{power_above, power_below}

-- ---- the closeness
pub up : Closeness → ℕ
up (pos n) = n
up (negsuc n) = 0

pub down : Closeness → ℕ
down (pos n) = 0
down (negsuc n) = suc n

pub bar-split : (e : Closeness) (l : ℕ) → bar e l ≡ sub_ℕ (lg (l * suc l / 2) + up e * units_per_bit) (down e * units_per_bit)
unfolding bar up down
bar-split (negsuc n) l =
    difference-is (lg (l * suc l / 2)) (suc n * units_per_bit)
    ∙ ap (λ (k : ℕ). sub_ℕ k (suc n * units_per_bit)) (sym (ap (λ (k : ℕ). lg (l * suc l / 2) + k) (zero-mul units_per_bit) ∙ add-zero (lg (l * suc l / 2))))
bar-split (pos n) l =
    let raised = lg (l * suc l / 2) + n * units_per_bit in
    sym (ap (sub_ℕ raised) (zero-mul units_per_bit) ∙ diff-above raised 0 (omega arith) ∙ ap pos (omega arith))

one_power : 1 ^ units_per_bit ≡ 2 ^ (0 * units_per_bit)
one_power = ap (λ (k : ℕ). k ^ units_per_bit) (sym (pow-zero 2)) ∙ pow-pow 2 0 units_per_bit

pub above_power : (e : Closeness) → power_above e ^ units_per_bit ≡ 2 ^ (up e * units_per_bit)
unfolding power_above up
above_power (pos n) = pow-pow 2 n units_per_bit
above_power (negsuc n) = one_power

pub below_power : (e : Closeness) → power_below e ^ units_per_bit ≡ 2 ^ (down e * units_per_bit)
unfolding power_below down
below_power (pos n) = one_power
below_power (negsuc n) = pow-pow 2 (suc n) units_per_bit

-- ---- the settings: how many lie below closeness 0, that of the largest closeness, and the closeness of each
unfoldable pub settings_below : ℕ
settings_below = nat_abs least_closeness

unfoldable pub last_setting : ℕ
last_setting = nat_abs (most_closeness -ℤ least_closeness)

unfoldable pub closeness_of : ℕ → Closeness
closeness_of setting = sub_ℕ setting settings_below

-- ---- the bar at a setting
pub bar-setting : (s l : ℕ) → bar (closeness_of s) l ≡ sub_ℕ (lg (l * suc l / 2) + s * units_per_bit) (settings_below * units_per_bit)
unfolding closeness_of up down
bar-setting s l =
    by_sign (λ (e : ℤ). bar e l ≡ sub_ℕ (lg (l * suc l / 2) + s * units_per_bit) (settings_below * units_per_bit)) s settings_below
    (λ h. bar-split (pos (s - settings_below)) l ∙ shifted (pos (s - settings_below)) (pos-up h))
    (λ h. bar-split (negsuc (settings_below - suc s)) l ∙ shifted (negsuc (settings_below - suc s)) (neg-up h))
  where
    shifted : (e : Closeness) → up e + settings_below ≡ s + down e
        → sub_ℕ (lg (l * suc l / 2) + up e * units_per_bit) (down e * units_per_bit) ≡ sub_ℕ (lg (l * suc l / 2) + s * units_per_bit) (settings_below * units_per_bit)
    shifted e q =
        same-difference (lg (l * suc l / 2) + up e * units_per_bit) (down e * units_per_bit) (lg (l * suc l / 2) + s * units_per_bit) (settings_below * units_per_bit)
        (omega (arith, ap (λ (k : ℕ). k * units_per_bit) q))

    pos-up : settings_below ≤ s → up (pos (s - settings_below)) + settings_below ≡ s + down (pos (s - settings_below))
    pos-up h = omega arith

    neg-up : s < settings_below → up (negsuc (settings_below - suc s)) + settings_below ≡ s + down (negsuc (settings_below - suc s))
    neg-up h = omega arith

-- ---- the setting of a closeness
pub record Counted (e : Closeness) : Type 0 where
  pub setting : ℕ
  pub counted : e -ℤ least_closeness ≡ pos setting
  pub within : setting ≤ last_setting
  pub back : closeness_of setting ≡ e

pub counted-from-least : (e : Closeness) → Offered e → Counted e
unfolding least_closeness most_closeness last_setting settings_below closeness_of
counted-from-least (pos n) o =
    let l : n ≤ 20 = leb→le n 20 o.most.le in
    record {
      setting = n + settings_below;
      counted = refl;
      within = omega arith;
      back = diff-above (n + settings_below) settings_below (omega arith) ∙ ap pos (omega arith);
    }
counted-from-least (negsuc n) o =
    let l : n ≤ 9 = leb→le n 9 o.least.le in
    record {
      setting = settings_below - suc n;
      counted = diff-above settings_below (suc n) (omega arith);
      within = omega arith;
      back = by_sign (λ (z : ℤ). z ≡ negsuc n) (settings_below - suc n) settings_below (λ h. absurd (omega arith)) (λ h. ap negsuc (omega arith));
    }

-- a number that lies so far above the least closeness is its setting
pub setting-is : (e : Closeness) (s : ℕ) → Offered e → pos s ≡ e -ℤ least_closeness → (s ≤ last_setting) × (closeness_of s ≡ e)
setting-is e s o q =
    let f = counted-from-least e o in
    let k : s ≡ f.setting = ap nat_abs (q ∙ f.counted) in
    (omega (arith, f.within), ap closeness_of k ∙ f.back)
