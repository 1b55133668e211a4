-- What holds for the measures of a pixel of bytes; proved in proofs/Ranges. Assumes nothing.
use Rattle.std.specs.Prelude.{ℕ, ◌+◌, ◌*◌, ◌≤◌, ◌<◌, ◌≡◌, false, pos}
use Rattle.pixel.specs.declared.Pixel.{Pixel}
use Rattle.pixel.specs.declared.Measures.{Measures}
use Rattle.pixel.specs.Colour.{Point, intensity_count, saturation_count, hue_count, chroma_squared, saturation_bin, is_grey, hue_point, quarter, turned_back, turned_of, measures_of}

-- a pixel of bytes
pub record Bytes (p : Pixel) : Type 0 where
  pub red : p.red < 256
  pub green : p.green < 256
  pub blue : p.blue < 256

-- M1, M3 and M8: the ranges of the bins
pub record InRange (m : Measures) : Type 0 where
  pub intensity : m.intensity < intensity_count
  pub saturation : m.saturation < saturation_count
  pub hue : m.hue < hue_count

abbrev pub AlwaysInRange : Type 0
AlwaysInRange = (p : Pixel) → Bytes p → InRange (measures_of p)

-- M2: the subtraction of natural numbers cuts nothing off
abbrev pub ChromaWhole : Type 0
ChromaWhole = (p : Pixel)
    → chroma_squared p + (p.red * p.green + p.green * p.blue + p.blue * p.red) ≡ p.red * p.red + p.green * p.green + p.blue * p.blue

-- M3: the largest of all j, not only of those up to 41
pub record SaturationLargest (p : Pixel) : Type 0 where
  pub passes : 75 * (saturation_bin p * saturation_bin p) ≤ 2 * chroma_squared p
  pub largest : (j : ℕ) → 75 * (j * j) ≤ 2 * chroma_squared p → j ≤ saturation_bin p

abbrev pub AlwaysLargest : Type 0
AlwaysLargest = (p : Pixel) → Bytes p → SaturationLargest p

-- M7: the two numbers that the hue bin is made from are the coordinates of the turned point, and a is positive
pub record TurnedToFirst (c : Point) : Type 0 where
  pub a_positive : 0 < (turned_of c).a
  pub point : turned_back (quarter c) c ≡ record { x = pos (turned_of c).a; y = pos (turned_of c).b }

abbrev pub ColouredTurns : Type 0
ColouredTurns = (p : Pixel) → is_grey p ≡ false → TurnedToFirst (hue_point p)
