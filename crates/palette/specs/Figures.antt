-- How large the figures of a card can be. Assumes nothing.
use Rattle.std.specs.Prelude.{ℕ, ◌≤◌, ◌<◌, List, length}
use Rattle.pixel.specs.declared.Pixel.{Pixel}
use Rattle.pixel.specs.Ranges.{Bytes}
use Rattle.verdict.specs.Test.{Closeness}
use Rattle.palette.specs.Levels.{hue, saturation, intensity, bin_count}
use Rattle.palette.specs.Cards.{entries}
use Rattle.palette.specs.Sound.{pixel_at, entry_at}
use Rattle.palette.specs.declared.Entry.{Entry}

-- an entry of an image with this many pixels (C5): a histogram has no more modes than bins, a mean of bytes is a byte, and no pixel counts twice
pub record EntryBounds (pixels : ℕ) (t : Entry) : Type 0 where
  pub kind : t.kind ≤ 1
  pub hue : t.hue < bin_count hue
  pub saturation : t.saturation < bin_count saturation
  pub intensity : t.intensity < bin_count intensity
  pub red : t.red < 256
  pub green : t.green < 256
  pub blue : t.blue < 256
  pub count : t.count ≤ pixels

-- proved in proofs/Bounds
abbrev pub FiguresBounded : Type 0
FiguresBounded = (e : Closeness) (ps : List Pixel) → ((i : ℕ) → i < length ps → Bytes (pixel_at ps i))
    → (n : ℕ) → n < length (entries e ps) → EntryBounds (length ps) (entry_at (entries e ps) n)
