-- Joins all round a ring: rules R4 and R5. Its modes are segments by places from the opening on, and a place a turn later is the same bin. Assumes nothing.
--   later, twice  a mode a turn later; the modes of a ring and all of them a turn later: a run that goes past the last mode is a run of these
--   next_round    the next join anywhere round the ring, if any
--   join_round    the modes after it
use Rattle.std.specs.Prelude.{ℕ, ◌+◌, ◌-◌, true, List, ◌++◌, map, length, take, drop}
use Rattle.std.proofs.Math.Option.{Option}
use Rattle.verdict.specs.Test.{Closeness}
use Rattle.segmentation.specs.Segments.{Segment}
use Rattle.segmentation.specs.Joining.{Reader, Join, join, next_among, Joins}

-- a turn of so many bins later
abbrev pub later : (bins : ℕ) → Segment → Segment
later bins s = record { start = s.start + bins; peak = s.peak + bins; end = s.end + bins }

-- R3: the modes of a ring, and all of them a turn later: the last mode and the first are neighbours
unfoldable pub twice : (bins : ℕ) → List Segment → List Segment
twice bins ss = ss ++ map (later bins) ss

-- R4: the next join, from any mode on and past the last one to the first
unfoldable pub next_round : Closeness → Reader → (bins : ℕ) → List Segment → Option Join
next_round e read bins ss = next_among e read (twice bins ss) true (length ss)

-- the same run, with another number for its start
abbrev pub starting_at : ℕ → Join → Join
starting_at i j = record { first = i; len = j.len; rise = j.rise; cost = j.cost }

-- R5, R7: a run among n modes, which `all` has twice over, is joined in the turn that begins behind it. So where it goes on past the last mode, to `past` of the first
-- ones, its mode becomes the last, and the modes still number from the opening on. `past` is 0 where the first difference would be negative; a run has no more modes than
-- there are, so the second one never is
unfoldable pub join_twice : (all : List Segment) (n : ℕ) → Join → List Segment
join_twice all n j = let past = j.first + j.len - n in join (take n (drop past all)) (starting_at (j.first - past) j)

unfoldable pub join_round : (bins : ℕ) → List Segment → Join → List Segment
join_round bins ss j = join_twice (twice bins ss) (length ss) j

abbrev pub ring_joins : Closeness → Reader → (bins : ℕ) → Joins
ring_joins e read bins = record { next = next_round e read bins; after = join_round bins }
