-- The bins of pixels that are given by their numbers. Assumes nothing.
use Prim.Native.Nat.{ℕ, ◌<◌}
use mathlib.Core.Path.{◌≡◌}
use mathlib.Core.List.{List}
use lib.ListN.{length, get_or, length-map}
use Rattle.lists.proofs.Places.{map_at}
use Rattle.pixel.specs.declared.Pixel.{Pixel}
use Rattle.palette.specs.Levels.{Level, bin_of}
use Rattle.palette.specs.Sound.{pixel_at}
use Rattle.dividing.specs.Splitting.{bins_of}

pub bins-length : (ps : List Pixel) (l : Level) (xs : List ℕ) → length (bins_of ps l xs) ≡ length xs
unfolding bins_of
bins-length ps l xs = length-map xs _

pub bins-at : (ps : List Pixel) (l : Level) (xs : List ℕ) (i : ℕ) → i < length xs → get_or (bins_of ps l xs) i 0 ≡ bin_of l (pixel_at ps (get_or xs i 0))
unfolding bins_of
bins-at ps l xs i h = map_at (λ i. bin_of l (pixel_at ps i)) xs i 0 0 h
