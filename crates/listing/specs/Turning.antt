-- Rule R9: turning a ring. If one bin is lower than every other, separators and modes follow the turn. Assumes nothing.
--   turned, turned_bin            the ring turned by k bins; the number that bin b has then
--   SingleLowest                  one bin is lower than every other
--   SeparatorsTurn, ContentsKept  separators move with their bins, and so do the bins of each mode
--   TurnsAlong                    these two, how many separators there are, and the numbers of the modes
--   TurningKeeps, TwoLowest       every ring with a single lowest bin turns along; one with two lowest bins that does not
use Rattle.std.specs.Prelude.{ℕ, ◌+◌, ◌-◌, ◌%◌, ◌≤◌, ◌<◌, ◌≡◌, List, [], ◌∷◌, ◌++◌, map, pos, length, take, drop}
use Rattle.lists.specs.Lists.{total, contains}
use Rattle.verdict.specs.Test.{Closeness}
use Rattle.segmentation.specs.Segments.{bin_at}
use Rattle.segmentation.specs.Ring.{ring_modes, ring_starts, in_ring_mode}
use Rattle.listing.specs.Listing.{ring_separators}

-- R9: the ring turned by k bins: its last k % length bins come first. In a ring that has bins these are fewer than all, so the difference is never negative
unfoldable pub turned : ℕ → List ℕ → List ℕ
turned k h = let stay = length h - k % length h in drop stay h ++ take stay h

-- R9: bin b becomes bin b + k, round the ring
abbrev pub turned_bin : ℕ → List ℕ → ℕ → ℕ
turned_bin k h b = (b + k) % length h

-- what turning is, whatever the bins hold
pub record Turned (k : ℕ) (h : List ℕ) : Type 0 where
  pub same_length : length (turned k h) ≡ length h
  pub same_total : total (turned k h) ≡ total h
  pub moved : (b : ℕ) → b < length h → bin_at (turned k h) (turned_bin k h b) ≡ bin_at h b

-- proved in proofs/TurnedBins
abbrev pub AlwaysTurned : Type 0
AlwaysTurned = (k : ℕ) (h : List ℕ) → Turned k h

-- R9: one bin is lower than every other
pub record SingleLowest (h : List ℕ) : Type 0 where
  pub bin : ℕ
  pub in_ring : bin < length h
  pub lowest : (b : ℕ) → b < length h → ¬ (b ≡ bin) → bin_at h bin < bin_at h b

-- R9: bin b is a separator before the turn if and only if bin b + k, round the ring, is one after it
abbrev pub SeparatorsTurn : Closeness → ℕ → List ℕ → Type 0
SeparatorsTurn e k h = (b : ℕ) → b < length h → contains (ring_separators e (turned k h)) (turned_bin k h b) ≡ contains (ring_separators e h) b

-- R9: mode n of the turned ring has the bins of mode m of the ring, turned, and no others
abbrev pub SameContents : Closeness → ℕ → List ℕ → (m n : ℕ) → Type 0
SameContents e k h m n = (b : ℕ) → b < length h → in_ring_mode e (turned k h) n (turned_bin k h b) ≡ in_ring_mode e h m b

-- R9: for each mode some mode of the turned ring has the same contents, whatever its number is
abbrev pub ContentsKept : Closeness → ℕ → List ℕ → Type 0
ContentsKept e k h = (m : ℕ) → m < length (ring_modes e h) → (n : ℕ) × (n < length (ring_modes e (turned k h))) × SameContents e k h m n

-- R9: all that follows the turn
pub record TurnsAlong (e : Closeness) (k : ℕ) (h : List ℕ) : Type 0 where
  pub separators : SeparatorsTurn e k h
  pub as_many : length (ring_separators e (turned k h)) ≡ length (ring_separators e h)
  pub contents : ContentsKept e k h
  -- R9: each mode keeps its number too. So the modes start, in their order, at the bins where they started, turned
  pub same_numbers : (m : ℕ) → SameContents e k h m m
  pub same_modes : length (ring_modes e (turned k h)) ≡ length (ring_modes e h)
  pub starts : ring_starts e (turned k h) ≡ map (turned_bin k h) (ring_starts e h)

-- R9: every ring with a single lowest bin turns along. Proved in proofs/Turning
abbrev pub TurningKeeps : Type 0
TurningKeeps = (e : Closeness) (k : ℕ) (h : List ℕ) → 2 ≤ length h → SingleLowest h → TurnsAlong e k h

-- a ring whose lowest bins are 2 and 3. Turned by 2 they are bins 4 and 0, so the ring is opened at the other one
abbrev pub two_lowest : List ℕ
two_lowest = 1 ∷ 9 ∷ 0 ∷ 0 ∷ 9 ∷ []

-- R9: its separators do not follow the turn: they would be 2 and 4. Nor do the contents of its modes: bins 2 and 4 share a mode, and turned, as bins 4 and 1, they do
-- not. Proved in proofs/TwoLowest
pub record TwoLowest : Type 0 where
  pub turned_bins : turned 2 two_lowest ≡ 0 ∷ 9 ∷ 1 ∷ 9 ∷ 0 ∷ []
  pub before : ring_separators (pos 0) two_lowest ≡ 0 ∷ 2 ∷ []
  pub after : ring_separators (pos 0) (turned 2 two_lowest) ≡ 0 ∷ 2 ∷ []
  pub separators : ¬ SeparatorsTurn (pos 0) 2 two_lowest
  pub contents : ¬ ContentsKept (pos 0) 2 two_lowest
