-- The figures in weights and in the bar are small. Assumes nothing.
use mathlib.Core.Path.{subst}
use Prim.Native.Nat.{ℕ, zero, suc, ◌+◌, ◌*◌, ◌-◌, ◌/◌, ◌^◌, ◌≤◌, ◌<◌}
use native.Mathlib.Nat.{mul-le-mul_left, mul-le-mul, le_refl, zero-mul}
use native.Mathlib.Omega.{arith}
use lib.Dec.{lit≤}
use lib.Signed.{mag}
use Rattle.lists.proofs.Signed.{difference_below}
use Rattle.logarithm.specs.Log.{Loggable, lg, units_per_bit, round_count}
use Rattle.logarithm.proofs.Laws.{lg-below}
use Rattle.pooling.specs.Limits.{most_bins, most_counts}
use Rattle.verdict.specs.declared.Mass.{Mass}
use Rattle.verdict.specs.Test.{Closeness, least_closeness, most_closeness, weight, bar}
use Rattle.verdict.specs.Settings.{Offered}
use Rattle.verdict.specs.Exactness.{LogsDefined}
use Rattle.verdict.proofs.Terms.{observed_log, expected_log, Ranged, loggable, counted, massed, remaining, parts-range}
use Rattle.verdict.proofs.Settings.{settings_below, last_setting, bar-setting, counted-from-least}

-- room for finer units too
pub units_small : units_per_bit ≤ 2 ^ 40
unfolding units_per_bit round_count
units_small = lit≤ tt

pub lg-small : (x : ℕ) → Loggable x → lg x ≤ 2 ^ 45
lg-small x v = omega (arith, lg-below x v, units_small)

-- room for wider ranges too
pub setting-small : {s : ℕ} → s ≤ last_setting → s ≤ 32
unfolding last_setting least_closeness most_closeness
setting-small h = omega arith

below-small : settings_below ≤ 32
unfolding settings_below least_closeness
below-small = lit≤ tt

setting-units : (s : ℕ) → s ≤ 32 → s * units_per_bit ≤ 2 ^ 45
setting-units s h = mul-le-mul h units_small

pub below-units : settings_below * units_per_bit ≤ 2 ^ 45
below-units = setting-units settings_below below-small

-- a count times a logarithm
pub term-small : (n x : ℕ) → Loggable x → n * lg x ≤ n * 2 ^ 45
term-small n x v = mul-le-mul_left n (lg-small x v)

-- ---- the bar, and the larger of the two numbers that it is the difference of
pub raised-small : (s l : ℕ) → s ≤ last_setting → 1 ≤ l → l ≤ most_bins → lg (l * suc l / 2) + s * units_per_bit ≤ 2 ^ 46
raised-small s l a b c = omega (arith, lg-small (l * suc l / 2) (parts-range l b c), setting-units s (setting-small a))

pub bar-small : (e : Closeness) (l : ℕ) → Offered e → 1 ≤ l → l ≤ most_bins → mag (bar e l) < 2 ^ 47
bar-small e l o b c =
    let f = counted-from-least e o in
    let s = f.setting in
    subst (λ (z : Closeness). mag (bar z l) < 2 ^ 47) f.back
    (rw (bar-setting s l)
    (difference_below (lg (l * suc l / 2) + s * units_per_bit) (settings_below * units_per_bit) (2 ^ 47) (omega (arith, raised-small s l f.within b c)) (omega (arith, below-units))))

-- ---- a weight
term-ranged : (f x : ℕ) → Ranged f x → f * lg x ≤ f * 2 ^ 45
term-ranged zero x r = rw (zero-mul, zero-mul) (le_refl 0)
term-ranged (suc f) x r = term-small (suc f) x (loggable r (omega arith))

-- with room for the bar
pub weight-small : (n k : ℕ) (m : Mass) → LogsDefined n k m → n ≤ most_counts → mag (weight n k m) < 2 ^ 62 - 2 ^ 48
unfolding weight
weight-small n k m r h =
    let a = term-ranged k (k * m.den) (counted n k m r k r.partial) in
    let b = term-ranged (n - k) ((n - k) * m.den) (counted n k m r (n - k) (omega arith)) in
    let c = term-ranged k m.num (massed n k m r) in
    let d = term-ranged (n - k) (n * m.den - m.num) (remaining n k m r) in
    difference_below (observed_log n k m) (expected_log n k m) (2 ^ 62 - 2 ^ 48) (omega (arith, r.partial)) (omega (arith, r.partial))
