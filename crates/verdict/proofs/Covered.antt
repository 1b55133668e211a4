-- From closeness 0 up a stretch of two bins or more has a bar above 0. So a monotone one costs less than 0, and it is never the missing step alone that
-- keeps it. Assumes nothing.
use Prim.Native.Nat.{ℕ, zero, suc, ◌+◌, ◌*◌, ◌/◌, ◌≤◌, ◌<◌}
use mathlib.Core.Path.{◌≡◌, refl, ap, ◌∙◌}
use mathlib.Core.Bool.{false}
use mathlib.Core.List.{List}
use lib.Dec.{lit≤}
use lib.IntN.{pos, negsuc, neg_ℤ}
use lib.ListN.{length}
use lib.Pow.{pow_mono}
use lib.Signed.{le_z, ◌≤ℤ◌}
use native.Mathlib.Omega.{arith}
use native.Mathlib.Nat.{mul-le-mul, le-div_iff_mul-le, le_trans, pow-le-pow_left, not-le_of_lt}
use Rattle.logarithm.specs.Log.{Loggable, lg, units_per_bit, round_count}
use Rattle.logarithm.proofs.Within.{always-bounded}
use Rattle.pooling.specs.Blocks.{Direction}
use Rattle.pooling.specs.Limits.{most_bins}
use Rattle.verdict.specs.Test.{Closeness, bar, cost}
use Rattle.verdict.specs.Exactness.{ByMissingStep}
use Rattle.verdict.proofs.Terms.{parts-range}
use Rattle.verdict.proofs.Monotone.{monotone-cost}

two-units : 2 ≤ units_per_bit
unfolding units_per_bit round_count
two-units = lit≤ tt

-- were it 0, x raised to the power units_per_bit would be below 4
lg-positive : (x : ℕ) → 2 ≤ x → Loggable x → 0 < lg x
lg-positive x h v = go (lg x) refl
  where
    go : (l : ℕ) → lg x ≡ l → 0 < l
    go zero e = absurd (not-le_of_lt (rw e at (always-bounded x v).high) (le_trans (pow_mono two-units) (pow-le-pow_left h units_per_bit)))
    go (suc l) e = omega arith

-- two bins have three parts
parts-positive : (l : ℕ) → 2 ≤ l → l ≤ most_bins → 0 < lg (l * suc l / 2)
parts-positive l h k =
    let s : 3 ≤ suc l = omega arith in
    lg-positive (l * suc l / 2) ((le-div_iff_mul-le (omega arith)).1 (omega (arith, mul-le-mul h s))) (parts-range l (omega arith) k)

negative : (n : ℕ) → 0 < n → le_z (pos 0) (neg_ℤ (pos n)) ≡ false
negative zero h = absurd (omega arith)
negative (suc n) h = refl

pub never-by-missing-step : (e : Closeness) (w : Direction) (h : List ℕ) → length h ≤ most_bins → pos 0 ≤ℤ e → 2 ≤ length h → ¬ ByMissingStep e w h
unfolding bar
never-by-missing-step (negsuc n) w h most up two b = absurd up.le
never-by-missing-step (pos n) w h most up two b =
    let below : le_z (pos 0) (cost (pos n) w h) ≡ false =
    ap (le_z (pos 0)) (monotone-cost w h b.along (pos n) (omega arith)) ∙ negative (lg (length h * suc (length h) / 2) + n * units_per_bit) (omega (arith, parts-positive (length h) two most)) in
    absurd (rw below at b.dear.le)
