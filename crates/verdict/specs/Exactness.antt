-- The exact relative entropy that the test is compared with (rules T7 to T9), and what stands behind every verdict. Assumes nothing.
use Rattle.std.specs.Prelude.{ℕ, suc, ◌+◌, ◌*◌, ◌-◌, ◌/◌, ◌^◌, ◌≤◌, ◌<◌, ◌≡◌, true, false, List, length, get_or, pos, negsuc, neg_ℤ, ◌*ℤ◌, ◌≤ℤ◌}
use Rattle.lists.specs.Lists.{total, part}
use Rattle.logarithm.specs.Log.{units_per_bit}
use Rattle.pooling.specs.Blocks.{Direction, increasing, decreasing, blocks}
use Rattle.pooling.specs.Limits.{most_bins, most_counts}
use Rattle.pooling.specs.Fraction.{CommonDenominator, sum_of}
use Rattle.pooling.specs.Best.{means, Pooled}
use Rattle.verdict.specs.declared.Mass.{Mass}
use Rattle.verdict.specs.Test.{Closeness, fitted_mass, bar, cost, rejected}

-- T7: X of a part with k of the n counts; k ≤ n and A ≤ nB, so no difference is ever negative
unfoldable pub observed : ℕ → ℕ → Mass → ℕ
observed n k m = (k * m.den) ^ k * ((n - k) * m.den) ^ (n - k)

-- T7: Y
unfoldable pub expected : ℕ → ℕ → Mass → ℕ
expected n k m = m.num ^ k * (n * m.den - m.num) ^ (n - k)

-- T7: 2^e unless e is negative, else 1
unfoldable pub power_above : Closeness → ℕ
power_above (pos n) = 2 ^ n
power_above (negsuc n) = 1

-- T7: 2^−e if e is negative, else 1. It stands beside X, on the other side
unfoldable pub power_below : Closeness → ℕ
power_below (pos n) = 1
power_below (negsuc n) = 2 ^ suc n

-- T7: what X/Y is compared with, without the power of two of a negative closeness
unfoldable pub exact_bar : Closeness → ℕ → ℕ
exact_bar e l = power_above e * (l * suc l / 2)

-- L1: what the logarithms of a weight require of a part that holds k of the n counts: kB, (N−k)B, A and NB−A are below 2^32, and 1 or more if their factor is not 0
pub record LogsDefined (n k : ℕ) (m : Mass) : Type 0 where
  pub partial : k ≤ n
  pub positive : 0 < m.den
  pub within : m.num ≤ n * m.den
  pub below : n * m.den < 2 ^ 32
  pub some_mass : 0 < k → 0 < m.num
  pub some_rest : k < n → m.num < n * m.den

-- no step from a bin to the next goes against the direction
abbrev pub InOrder : Direction → ℕ → ℕ → Type 0
InOrder increasing a b = a ≤ b
InOrder decreasing a b = b ≤ a

abbrev pub Monotone : Direction → List ℕ → Type 0
Monotone w h = (i : ℕ) → suc i < length h → InOrder w (get_or h i 0) (get_or h (suc i) 0)

module _ (e : Closeness) (w : Direction) (h : List ℕ) where
  -- T7: X of the part from bin i to bin j, times the power of two of a negative closeness
  unfoldable pub part_x : ℕ → ℕ → ℕ
  part_x i j = power_below e * observed (total h) (total (part i j h)) (fitted_mass h (blocks w h) i j)

  -- the Y of that part, times the bar
  unfoldable pub part_bar : ℕ → ℕ → ℕ
  part_bar i j = exact_bar e (length h) * expected (total h) (total (part i j h)) (fitted_mass h (blocks w h) i j)

  -- T8: log2(X/Y) is above the bar's logarithm minus 2N + 2 units. Both sides are raised to the power units_per_bit, so that a factor of 2 is one unit
  pub record Above (i j : ℕ) : Type 0 where
    pub ends : (i ≤ j) × (j < length h)
    pub above : part_bar i j ^ units_per_bit < part_x i j ^ units_per_bit * 2 ^ (2 * total h + 2)

  -- T9: log2(X/Y) is below the bar's logarithm plus 2N units
  pub record BelowBar (i j : ℕ) : Type 0 where
    pub below : part_x i j ^ units_per_bit < part_bar i j ^ units_per_bit * 2 ^ (2 * total h)

  -- T9: only the missing step decides: at its cost the stretch would be rejected
  pub record ByMissingStep : Type 0 where
    pub along : Monotone w h
    pub dear : pos 0 ≤ℤ cost e w h

  -- T8 and T9: the verdict agrees with the exact figures outside the band
  pub record Exact : Type 0 where
    pub rejection : rejected e w h ≡ true → (i : ℕ) × (j : ℕ) × Above i j
    pub acceptance : rejected e w h ≡ false → ¬ ByMissingStep → (i j : ℕ) → i ≤ j → j < length h → BelowBar i j

  -- T2: A/B is the sum of the fitted means over the part: A·D = B·(that sum times D), for every common denominator D
  pub record MassOfFit (i j : ℕ) : Type 0 where
    pub positive : 0 < (fitted_mass h (blocks w h) i j).den
    pub mass : (D : ℕ) → 0 < D → CommonDenominator D (means (blocks w h))
        → pos ((fitted_mass h (blocks w h) i j).num * D)
        ≡ pos (fitted_mass h (blocks w h) i j).den *ℤ sum_of D (part i j (means (blocks w h)))

  -- D2 and D3: what stands behind the verdict of the stretch h: its fit, fitted masses that are those of the fit, and the exact relative entropy.
  -- A stretch that is already monotone in the tested direction has weight 0 in every part, so its cost is minus the bar; it is never rejected (T6)
  pub record VerdictSound : Type 0 where
    pub fit : Pooled w h
    pub masses : (i j : ℕ) → i ≤ j → j < length h → MassOfFit i j
    pub in_range : (i j : ℕ) → i ≤ j → j < length h → LogsDefined (total h) (total (part i j h)) (fitted_mass h (blocks w h) i j)
    pub exact : 1 ≤ length h → Exact
    pub monotone : 1 ≤ length h → Monotone w h → cost e w h ≡ neg_ℤ (bar e (length h))
    pub kept : Monotone w h → rejected e w h ≡ false
    -- T9: from closeness 0 up the bar of two bins or more is above 0, so the missing step never decides alone, and the band covers every verdict
    pub covered : pos 0 ≤ℤ e → 2 ≤ length h → ¬ ByMissingStep

-- proved in proofs/Sound. Of up to 257 bins and 98,304 counts NB is at most 98,304 · 128 · 129, within the logarithm's range
abbrev pub VerdictAlwaysSound : Type 0
VerdictAlwaysSound = (e : Closeness) (w : Direction) (h : List ℕ) → length h ≤ most_bins → total h ≤ most_counts → VerdictSound e w h
