-- Approximating a square root, for the saturation bin. No public promise cites it. Assumes nothing.
--   RootWithin  how near a number is to the root
--   Rooted      a table of roots
--   line_of     straight lines that run near the root, in 1024ths: for 0 to 39, 40 to 199, 200 to 699, and 700 to 1734
use Rattle.std.specs.Prelude.{ℕ, zero, suc, ◌+◌, ◌*◌, ◌≤◌, ◌<◌, ◌≡◌, List, length, get_or}
use Rattle.pixel.specs.declared.Line.{Line}
use Rattle.pixel.specs.Colour.{saturation_count}

-- j is the whole part of the square root of x, or less than w below it
pub record RootWithin (w x j : ℕ) : Type 0 where
  pub low : j * j ≤ x
  pub high : x < (j + w) * (j + w)

-- the square roots of the numbers below this, rounded down, are the saturation bins
abbrev pub root_count : ℕ
root_count = saturation_count * saturation_count

-- a table of roots: the first n places have theirs
pub record Rooted (roots : List ℕ) (n : ℕ) : Type 0 where
  pub long : length roots ≡ root_count
  pub each : (x : ℕ) → x < n → RootWithin 1 x (get_or roots x 0)

unfoldable pub line_of : ℕ → Line
line_of zero = record { start = 900; slope = 146 }
line_of (suc zero) = record { start = 4500; slope = 49 }
line_of (suc (suc zero)) = record { start = 9600; slope = 25 }
line_of (suc (suc (suc n))) = record { start = 16600; slope = 15 }
