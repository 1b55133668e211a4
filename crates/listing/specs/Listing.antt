-- The list of a ring call: rule R8, and what can be read off it. A card is made without it. Assumes nothing.
use Rattle.std.specs.Prelude.{ℕ, suc, ◌-◌, ◌≤◌, ◌<◌, ◌≡◌, true, List, length}
use Rattle.lists.specs.Lists.{numbers, filter, contains, Rising}
use Rattle.verdict.specs.Test.{Closeness}
use Rattle.segmentation.specs.Segments.{bin_at}
use Rattle.segmentation.specs.Ring.{ring_modes, ring_starts, in_ring_mode}

-- R8: the bins where a mode starts, from the lowest number up
unfoldable pub ring_separators : Closeness → List ℕ → List ℕ
ring_separators e h = filter (contains (ring_starts e h)) (numbers 0 (length h))

-- R7: bin b lies in a mode that starts at bin s. By RingFinished it lies in no other
abbrev pub InModeFrom : Closeness → List ℕ → (s b : ℕ) → Type 0
InModeFrom e h s b = (m : ℕ) × (m < length (ring_modes e h)) × (in_ring_mode e h m b ≡ true) × (bin_at (ring_starts e h) m ≡ s)

-- what holds of every ring's list
pub record RingOrdered (e : Closeness) (h : List ℕ) : Type 0 where
  -- R8: it has the bins where a mode starts and no others, one for each mode, and each is above the one before it
  pub starts : (b : ℕ) → contains (ring_separators e h) b ≡ contains (ring_starts e h) b
  pub for_each_mode : length (ring_separators e h) ≡ length (ring_modes e h)
  pub rising : Rising (ring_separators e h)
  -- R7, read off the list: the bins from a separator up to the one before the next lie in the mode that starts there, and the bins before the first lie in the
  -- mode of the last
  pub between : (i b : ℕ) → i < length (ring_separators e h) → bin_at (ring_separators e h) i ≤ b → b < length h
      → (suc i < length (ring_separators e h) → b < bin_at (ring_separators e h) (suc i)) → InModeFrom e h (bin_at (ring_separators e h) i) b
  pub before : (b : ℕ) → b < bin_at (ring_separators e h) 0 → InModeFrom e h (bin_at (ring_separators e h) (length (ring_separators e h) - 1)) b

-- proved in proofs/Always
abbrev pub RingAlwaysOrdered : Type 0
RingAlwaysOrdered = (e : Closeness) (h : List ℕ) → 2 ≤ length h → RingOrdered e h
