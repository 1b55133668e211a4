-- Joins, and the modes of a line: rules S3 to S7 and S10. Assumes nothing.
--   Reader         the bins of a stretch, from bin i to bin j; of a line, its parts
--   rise_of, fall_of the two stretches of a run of n segments from number i; of a run of one, a mode's rise and fall
--   Join        a run that may be joined, and the cost that counts
--   next_among  the next join, if any, along a line or round a ring; next_join: of a line
--   join_all    what is left when there is none; line_modes: of a line
use Rattle.std.specs.Prelude.{ℕ, zero, suc, ◌+◌, ◌-◌, Bool, false, cond, List, [], ◌∷◌, ◌++◌, map, length, take, drop, ℤ, pos}
use Rattle.std.proofs.Math.Option.{Option}
use Rattle.std.specs.Int.Signed.{lt_z}
use Rattle.lists.specs.Lists.{part, numbers, first_lowest, first_that, maybe}
use Rattle.pooling.specs.Blocks.{increasing, decreasing}
use Rattle.verdict.specs.Test.{Closeness, cost}
use Rattle.segmentation.specs.Segments.{Segment, segment_at, first_segments}
-- the run of len segments from segment number `first` on, whether its rise or its fall counts, and the cost of that one
pub use Rattle.segmentation.specs.declared.Join.{Join}

abbrev pub Reader : Type 0
Reader = ℕ → ℕ → List ℕ

abbrev pub line_reader : List ℕ → Reader
line_reader h i j = part i j h

-- the last segment of a run. A run has one segment or more, so the difference is never negative
abbrev pub last_in : List Segment → ℕ → ℕ → Segment
last_in ss i n = segment_at ss (i + n - 1)

-- S3: from the first separator to the last peak
unfoldable pub rise_of : Reader → List Segment → ℕ → ℕ → List ℕ
rise_of read ss i n = read (segment_at ss i).start (last_in ss i n).peak

-- S3: from the first peak to the last separator
unfoldable pub fall_of : Reader → List Segment → ℕ → ℕ → List ℕ
fall_of read ss i n = read (segment_at ss i).peak (last_in ss i n).end

-- S6: the segment that a run becomes
unfoldable pub joined : List Segment → Join → Segment
joined ss j = record {
  start = (segment_at ss j.first).start;
  peak = cond j.rise (last_in ss j.first j.len).peak (segment_at ss j.first).peak;
  end = (last_in ss j.first j.len).end;
}

-- S6: that segment in place of the run
unfoldable pub join : List Segment → Join → List Segment
join ss j = take j.first ss ++ joined ss j ∷ drop (j.first + j.len) ss

-- S5, R4: the last segment that a run of n of `count` segments may start with. On a line it has n - 1 others behind it; on a ring it is any, and the run goes
-- on past the last one. A run has one segment or more and no more than there are, so no difference is ever negative
abbrev pub last_start : (round : Bool) (count n : ℕ) → ℕ
last_start round count n = cond round (count - 1) (count - n)

module _ (e : Closeness) (read : Reader) (ss : List Segment) where
  unfoldable pub rise_cost : ℕ → ℕ → ℤ
  rise_cost i n = cost e increasing (rise_of read ss i n)

  unfoldable pub fall_cost : ℕ → ℕ → ℤ
  fall_cost i n = cost e decreasing (fall_of read ss i n)

  -- S4: the run of n segments from number i, by the smaller of its costs, and by the fall on a tie
  unfoldable pub join_of : ℕ → ℕ → Join
  join_of i n =
      let r = rise_cost i n in
      let f = fall_cost i n in
      record { first = i; len = n; rise = lt_z r f; cost = cond (lt_z r f) r f }

  -- S5, R4: of the runs of n segments that start at number 0, 1, .., last, the first with the lowest cost
  unfoldable pub cheapest : (last n : ℕ) → Join
  cheapest last n = join_of (first_lowest last (λ i. (join_of i n).cost)) n

  -- S5, R4: of the lengths 2, 3 and so on up to `count`, the first whose lowest cost is below 0
  unfoldable pub next_among : (round : Bool) (count : ℕ) → Option Join
  next_among round count =
      first_that (λ (j : Join). lt_z j.cost (pos 0)) (map (λ n. cheapest (last_start round count n) n) (numbers 2 (count - 1)))

-- S5: the next join of a line
unfoldable pub next_join : Closeness → Reader → List Segment → Option Join
next_join e read ss = next_among e read ss false (length ss)

-- a way of joining: the next join, if there is one, and the segments after it
pub record Joins : Type 0 where
  pub next : List Segment → Option Join
  pub after : List Segment → Join → List Segment

-- S7, R5: the next join is made as long as there is one. Each drops a segment or more, so as many steps as there are segments are enough
unfoldable pub join_all : ℕ → Joins → List Segment → List Segment
join_all zero w ss = ss
join_all (suc k) w ss = maybe ss (λ j. join_all k w (w.after ss j)) (w.next ss)

abbrev pub line_joins : Closeness → Reader → Joins
line_joins e read = record { next = next_join e read; after = join }

-- S7: the modes of a line of bins
unfoldable pub line_modes : Closeness → List ℕ → List Segment
line_modes e h = join_all (length (first_segments h)) (line_joins e (line_reader h)) (first_segments h)

-- S10: the separators of a line: where its modes start, and the last bin
unfoldable pub line_separators : Closeness → List ℕ → List ℕ
line_separators e h = map (λ (s : Segment). s.start) (line_modes e h) ++ (length h - 1) ∷ []
