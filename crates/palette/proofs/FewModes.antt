-- A histogram has few modes: inner ones have two bins or more. Assumes nothing.
use Prim.Native.Nat.{ℕ, zero, suc, ◌*◌, ◌-◌, ◌≤◌, ◌<◌}
use mathlib.Core.Path.{◌≡◌, refl, ap}
use mathlib.Core.List.{List}
use native.Mathlib.Omega.{arith}
use lib.ListN.{length}
use Rattle.pixel.specs.declared.Pixel.{Pixel}
use Rattle.verdict.specs.Test.{Closeness}
use Rattle.segmentation.specs.Segments.{Segment, segment_at}
use Rattle.segmentation.specs.Joining.{line_modes}
use Rattle.segmentation.specs.Ring.{opened}
use Rattle.segmentation.specs.Inside.{Inside}
use Rattle.segmentation.specs.Finished.{Cut}
use Rattle.segmentation.proofs.Finishing.{modes-cut, modes-inside}
use Rattle.segmentation.proofs.RingPlaces.{ring-length}
use Rattle.segmentation.proofs.RingModes.{ring-fewer}
use Rattle.palette.specs.Levels.{Level, hue, saturation, intensity, bin_count, modes_at}
use Rattle.palette.specs.Cards.{Branch, histogram_in, modes_found}
use Rattle.palette.proofs.Partition.{histogram-in-length}

-- of 61 bins, the opened ring, and of 42 and 52
abbrev pub most_modes : Level → ℕ
most_modes hue = 31
most_modes saturation = 21
most_modes intensity = 26

-- so a mode's number is a digit to base 64
pub most-modes-few : (l : Level) → most_modes l ≤ 31
most-modes-few hue = omega arith
most-modes-few saturation = omega arith
most-modes-few intensity = omega arith

module _ (bins : ℕ) (ss : List Segment) (c : Cut bins ss) (i : Inside ss) where
  starts_apart : (m : ℕ) → suc m < length ss → 2 * m < (segment_at ss (suc m)).start
  starts_apart zero l = omega (arith, c.chain.adjacent 0 l, (c.chain.peak_inside 0 (omega arith)).0, i.before_end 0 l)
  starts_apart (suc m) l =
      omega (arith, starts_apart m (omega arith), c.chain.adjacent (suc m) l, i.after_start (suc m) (omega arith) (omega arith), i.before_end (suc m) l)

  cut-few : 2 * length ss ≤ suc bins
  cut-few = go (length ss - 1) refl
    where
      go : (k : ℕ) → k ≡ length ss - 1 → 2 * length ss ≤ suc bins
      go zero q = omega (arith, c.non_empty, c.to_last_bin, c.chain.ascending 0 (omega (arith, c.non_empty)), ap (λ (n : ℕ). (segment_at ss n).end) q)
      go (suc k) q =
          omega (arith, starts_apart k (omega arith), c.to_last_bin, c.chain.ascending (suc k) (omega arith), ap (λ (n : ℕ). (segment_at ss n).end) q)

pub line-few : (e : Closeness) (h : List ℕ) → 2 ≤ length h → 2 * length (line_modes e h) ≤ suc (length h)
line-few e h two = cut-few (length h) (line_modes e h) (modes-cut e h two) (modes-inside e h two)

pub modes-few : (e : Closeness) (l : Level) (h : List ℕ) → length h ≡ bin_count l → length (modes_at e l h) ≤ most_modes l
modes-few e hue h n = let r = ring-length h (omega arith) in omega (arith, ring-fewer h (omega arith) e, line-few e (opened h) (omega arith))
modes-few e saturation h n = omega (arith, line-few e h (omega arith))
modes-few e intensity h n = omega (arith, line-few e h (omega arith))

pub found-few : (e : Closeness) (ps : List Pixel) (l : Level) (b : Branch) → modes_found e ps l b ≤ most_modes l
unfolding modes_found
found-few e ps l b = modes-few e l (histogram_in ps l b) (histogram-in-length ps l b)
