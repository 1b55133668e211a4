-- D3 for one histogram: no run of modes is joinable, along the line or all round the ring, each mode is a single hump, each bin lies in exactly one mode,
-- and every verdict has its fit behind it. Assumes nothing.
use Rattle.std.specs.Prelude.{ℕ, suc, ◌+◌, ◌*◌, ◌-◌, ◌≤◌, ◌<◌, ◌≡◌, false, List, length, pos, ◌≤ℤ◌}
use Rattle.lists.specs.Lists.{total, Rising, ExactlyOne}
use Rattle.pooling.specs.Blocks.{Direction, increasing, decreasing}
use Rattle.pooling.specs.Limits.{most_ring_bins, most_ring_counts, most_bins, most_counts}
use Rattle.verdict.specs.Test.{Closeness, rejected}
use Rattle.verdict.specs.Exactness.{VerdictSound}
use Rattle.segmentation.specs.Segments.{Segment, segment_at, bin_at, in_mode}
use Rattle.segmentation.specs.Joining.{Reader, line_reader, rise_of, fall_of, rise_cost, fall_cost, line_modes, line_separators}
use Rattle.segmentation.specs.Around.{twice}
use Rattle.segmentation.specs.Ring.{opening, opened, ring_bin, line_place, two_turns, round_reader, ring_modes, in_ring_mode}

-- the segments ss follow one another, and each has its peak between its separators
pub record Chain (ss : List Segment) : Type 0 where
  pub adjacent : (m : ℕ) → suc m < length ss → (segment_at ss m).end ≡ (segment_at ss (suc m)).start
  pub ascending : (m : ℕ) → m < length ss → (segment_at ss m).start < (segment_at ss m).end
  pub peak_inside : (m : ℕ) → m < length ss → ((segment_at ss m).start ≤ (segment_at ss m).peak) × ((segment_at ss m).peak ≤ (segment_at ss m).end)

-- a line of `bins` bins is cut into the modes ss: they follow one another from bin 0 to the last bin
pub record Cut (bins : ℕ) (ss : List Segment) : Type 0 where
  pub non_empty : 0 < length ss
  pub from_first_bin : (segment_at ss 0).start ≡ 0
  pub to_last_bin : suc (segment_at ss (length ss - 1)).end ≡ bins
  pub chain : Chain ss

-- R3, R7: a ring of `bins` bins is cut into the modes ss, by places from the opening on: they follow one another once round, each starts in the first turn, and
-- the last one ends where the first one starts, a turn later
pub record RingCut (bins : ℕ) (ss : List Segment) : Type 0 where
  pub non_empty : 0 < length ss
  pub first_turn : (m : ℕ) → m < length ss → (segment_at ss m).start < bins
  pub once_round : (segment_at ss (length ss - 1)).end ≡ (segment_at ss 0).start + bins
  pub chain : Chain ss

-- S9: neither the rise of mode m nor its fall is rejected
pub record SingleHump (e : Closeness) (read : Reader) (ss : List Segment) (m : ℕ) : Type 0 where
  pub rise : rejected e increasing (rise_of read ss m 1) ≡ false
  pub fall : rejected e decreasing (fall_of read ss m 1) ≡ false

-- a line of `bins` bins whose modes are ss; `read` gives the bins of its stretches
pub record Finished (e : Closeness) (read : Reader) (bins : ℕ) (ss : List Segment) : Type 0 where
  pub cut : Cut bins ss
  -- S4: no run of two or more modes, whatever its start i and length n, is joinable: neither of its costs is below 0
  pub none_joinable : (i n : ℕ) → 2 ≤ n → i + n ≤ length ss → (pos 0 ≤ℤ rise_cost e read ss i n) × (pos 0 ≤ℤ fall_cost e read ss i n)
  pub humps : (m : ℕ) → m < length ss → SingleHump e read ss m
  pub one_mode : (b : ℕ) → b < bins → ExactlyOne (length ss) (λ m. in_mode ss m b)
  -- what stands behind the verdict of every stretch, in either direction; the stretches of the runs and of the humps are among them
  pub verdicts : (w : Direction) (i j : ℕ) → i ≤ j → j < bins → VerdictSound e w (read i j)

pub record LineFinished (e : Closeness) (h : List ℕ) : Type 0 where
  pub finished : Finished e (line_reader h) (length h) (line_modes e h)
  -- S10: the listed separators rise
  pub rising : Rising (line_separators e h)

-- a ring of `bins` bins whose modes are ss; `read` gives the bins of its stretches, read round
pub record FinishedRound (e : Closeness) (read : Reader) (bins : ℕ) (ss : List Segment) : Type 0 where
  pub cut : RingCut bins ss
  -- R4: no run of two or more modes is joinable, whatever mode i it starts with and whatever its length n up to all: the last mode and the first are neighbours
  pub none_joinable : (i n : ℕ) → i < length ss → 2 ≤ n → n ≤ length ss
      → (pos 0 ≤ℤ rise_cost e read (twice bins ss) i n) × (pos 0 ≤ℤ fall_cost e read (twice bins ss) i n)
  -- R7: rise and fall are read round
  pub humps : (m : ℕ) → m < length ss → SingleHump e read ss m

pub record RingFinished (e : Closeness) (h : List ℕ) : Type 0 where
  -- R1: the opening is the lowest bin, the first if there are several
  pub in_ring : opening h < length h
  pub lowest : (b : ℕ) → b < length h → bin_at h (opening h) ≤ bin_at h b
  pub lowest_numbered : (b : ℕ) → b < opening h → bin_at h (opening h) < bin_at h b
  -- R2: the line is the ring from that bin on, with that bin repeated at the end
  pub opened_length : length (opened h) ≡ suc (length h)
  pub opened_bins : (i : ℕ) → i ≤ length h → bin_at (opened h) i ≡ bin_at h (ring_bin h i)
  -- R3: what is read round is the ring from that bin on, two turns of it
  pub round_length : length (two_turns h) ≡ length h + length h
  pub round_bins : (i : ℕ) → i < length h + length h → bin_at (two_turns h) i ≡ bin_at h (ring_bin h i)
  -- each bin of the ring has a place in the first turn
  pub place : (b : ℕ) → b < length h → (line_place h b < length h) × (ring_bin h (line_place h b) ≡ b)
  pub finished : FinishedRound e (round_reader h) (length h) (ring_modes e h)
  pub one_mode : (b : ℕ) → b < length h → ExactlyOne (length (ring_modes e h)) (λ m. in_ring_mode e h m b)
  -- what stands behind the verdicts of every run, and of every hump, which is a run of one
  pub runs : (i n : ℕ) → i < length (ring_modes e h) → 1 ≤ n → n ≤ length (ring_modes e h)
      → VerdictSound e increasing (rise_of (round_reader h) (twice (length h) (ring_modes e h)) i n)
      × VerdictSound e decreasing (fall_of (round_reader h) (twice (length h) (ring_modes e h)) i n)
  -- and, in either direction, of every stretch that reads no bin twice and of every full turn from a bin that holds at most half of the counts
  pub verdicts : (w : Direction) (i j : ℕ) → i ≤ j → j < i + length h → j < length h + length h → VerdictSound e w (round_reader h i j)
  pub full_turns : (w : Direction) (i : ℕ) → i < length h → 2 * bin_at h (ring_bin h i) ≤ total h → VerdictSound e w (round_reader h i (i + length h))
  -- each separator is such a bin, for it is the lowest of all or lower than the one before it
  pub low : (m : ℕ) → m < length (ring_modes e h) → 2 * bin_at h (ring_bin h (segment_at (ring_modes e h) m).start) ≤ total h

-- proved in proofs/Always. The bounds are those of a line call and of the opened line of a ring call
abbrev pub AlwaysFinished : Type 0
AlwaysFinished = (e : Closeness) (h : List ℕ) → 2 ≤ length h → length h ≤ most_bins → total h ≤ most_counts → LineFinished e h

-- proved in proofs/Always
abbrev pub RingAlwaysFinished : Type 0
RingAlwaysFinished = (e : Closeness) (h : List ℕ) → 2 ≤ length h → length h ≤ most_ring_bins → total h ≤ most_ring_counts → RingFinished e h
