-- How the code gives the bins of a histogram their modes. No public promise cites it. Assumes nothing.
use Rattle.std.specs.Prelude.{ℕ, suc, ◌+◌, ◌%◌, ◌≤◌, ◌<◌, ◌≡◌, List, length, get_or}
use Rattle.lists.specs.Lists.{Rising}
use Rattle.verdict.specs.Test.{Closeness}
use Rattle.palette.specs.Levels.{Level, saturation, intensity, modes_at}
use Rattle.dividing.specs.Splitting.{mode_of}

-- modes start at these places: there is one, and each starts after the one before it
pub record Rises (separators : List ℕ) : Type 0 where
  pub some : 0 < length separators
  pub rises : Rising separators

-- the place before place i lies in mode m: the last one that starts before place i; where none does, the last of all, which goes on round the ring to the first
pub record ModeBefore (separators : List ℕ) (m i : ℕ) : Type 0 where
  pub mode : m < length separators
  pub none_yet : i ≤ get_or separators 0 0 → suc m ≡ length separators
  pub begun : get_or separators 0 0 < i → get_or separators m 0 < i
  pub not_next : get_or separators 0 0 < i → suc m < length separators → i ≤ get_or separators (suc m) 0

-- place i lies in mode m
abbrev pub ModeAt : List ℕ → ℕ → ℕ → Type 0
ModeAt separators m i = ModeBefore separators m (suc i)

-- each place's bin bears its mode
abbrev pub PlacesNumbered : List ℕ → ℕ → List ℕ → Type 0
PlacesNumbered separators opening modes =
    (i : ℕ) → i < length modes → (m : ℕ) × ModeAt separators m i × (get_or modes ((opening + i) % length modes) 0 ≡ m)

-- n modes, and each bin bears its mode
pub record BinsNumbered (e : Closeness) (l : Level) (h : List ℕ) (modes : List ℕ) (n : ℕ) : Type 0 where
  pub found : n ≡ length (modes_at e l h)
  pub numbered : (b : ℕ) → b < length h → get_or modes b 0 ≡ mode_of e l h b

-- a line of bins numbered, whether they are saturations or intensities: both levels find the same modes
pub record LineNumbered (e : Closeness) (h : List ℕ) (modes : List ℕ) (n : ℕ) : Type 0 where
  pub saturations : BinsNumbered e saturation h modes n
  pub intensities : BinsNumbered e intensity h modes n
