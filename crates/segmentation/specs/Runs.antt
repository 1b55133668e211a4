-- What the search for the next join relies on. No public promise cites it. Assumes nothing.
use Rattle.std.specs.Prelude.{ℕ, suc, ◌+◌, ◌*◌, ◌-◌, ◌^◌, ◌≤◌, ◌<◌, ◌≡◌, Bool, true, false, cond, List, length, get_or, ℤ, pos, ◌≤ℤ◌}
use Rattle.std.proofs.Math.Option.{Option, none, some}
use Rattle.std.specs.Int.Signed.{lt_z, mag}
use Rattle.lists.specs.Lists.{total, part}
use Rattle.verdict.specs.Test.{Closeness}
use Rattle.pooling.specs.Limits.{Small}
use Rattle.segmentation.specs.declared.Line.{Line}
use Rattle.segmentation.specs.declared.Segments.{Segments}
use Rattle.segmentation.specs.Segments.{Segment, segment_at, bin_at}
use Rattle.segmentation.specs.Joining.{Reader, line_reader, Join, join_of, last_start, Joins, line_joins}
use Rattle.segmentation.specs.Held.{segments_held}
use Rattle.segmentation.specs.Finished.{Cut, RingCut}

-- two lists with room for so many segments
pub record Prepared (separators peaks : List ℕ) (held : ℕ) : Type 0 where
  pub places : (held < length separators) × (held ≤ length peaks)

-- the stretches of a line that the code holds
abbrev pub reader_of : Line → Reader
reader_of line = line_reader line.bins.now

-- and how its segments are joined
abbrev pub joins_of : Line → Joins
joins_of line = line_joins line.closeness (reader_of line)

-- n segments that cut it, with what a search among them needs, beside room in the two lists that hold them
pub record HeldOnLine (line : Line) (separators peaks : List ℕ) (n : ℕ) : Type 0 where
  pub small : Small line.bins.now
  pub cut : Cut (length line.bins.now) (segments_held separators peaks 0 n)

-- those of a value of the code's, which have room by their type
abbrev pub OnLine : {N : ℕ} → Line → Segments N → Type 0
OnLine line s = HeldOnLine line s.separators s.peaks s.count

-- the stretch from bin i to bin j lies within h, and is small enough to be tested
pub record Within (h : List ℕ) (i j : ℕ) : Type 0 where
  pub ends : (i ≤ j) × (j < length h)
  pub small : Small (part i j h)

-- so do both stretches of the run of len segments from number i
pub record RunInside (h separators peaks : List ℕ) (i len : ℕ) : Type 0 where
  pub fall : Within h (get_or peaks i 0) (get_or separators (i + len) 0)
  pub rise : Within h (get_or separators i 0) (get_or peaks (i + len - 1) 0)

-- of the runs of len segments that start at number 0, 1, .., starts - 1
abbrev pub RunsInside : (h separators peaks : List ℕ) (starts len : ℕ) → Type 0
RunsInside h separators peaks starts len = (i : ℕ) → i < starts → RunInside h separators peaks i len

-- how many segments are held for a search among n: those of a ring twice over
abbrev pub held_count : (round : Bool) (n : ℕ) → ℕ
held_count round n = cond round (n + n) n

-- those segments
abbrev pub held_among : (round : Bool) (separators peaks : List ℕ) (n : ℕ) → List Segment
held_among round separators peaks n = segments_held separators peaks 0 (held_count round n)

-- those of a value of the code's
abbrev pub held_for : (round : Bool) → {N : ℕ} → Segments N → List Segment
held_for round s = held_among round s.separators s.peaks s.count

-- of all runs of two or more of n segments
abbrev pub AllInside : (h separators peaks : List ℕ) (round : Bool) (n : ℕ) → Type 0
AllInside h separators peaks round n = (len : ℕ) → 2 ≤ len → len ≤ n → RunsInside h separators peaks (suc (last_start round n len)) len

-- of the runs of n segments that start at number 0, 1, .., from - 1 none is joinable
abbrev pub NoneBefore : Closeness → Reader → List Segment → (from n : ℕ) → Type 0
NoneBefore e read ss from n = (i : ℕ) → i < from → pos 0 ≤ℤ (join_of e read ss i n).cost

-- no run of two or more of the first `known` segments is joinable
abbrev pub NoneAmong : Closeness → Reader → List Segment → (known : ℕ) → Type 0
NoneAmong e read ss known = (n : ℕ) → 2 ≤ n → NoneBefore e read ss (suc known - n) n

-- what the joins round a ring of `bins` bins keep, whose bins from the opening on are `turn`: its modes go once round, and the bin of each separator holds at
-- most half of the counts, so that a full turn, which has that bin twice, is no larger than an opened line
pub record OnRing (bins : ℕ) (turn : List ℕ) (ss : List Segment) : Type 0 where
  pub cut : RingCut bins ss
  pub low : (m : ℕ) → m < length ss → 2 * bin_at turn (segment_at ss m).start ≤ total turn

-- what the code gives for the run j when only a cost below `least` matters: j itself if its cost is below `least`, else a run whose cost is not
pub record RunBelow (least : ℤ) (j r : Join) : Type 0 where
  pub below : lt_z j.cost least ≡ true → r ≡ j
  pub above : lt_z j.cost least ≡ false → least ≤ℤ r.cost
  pub small : mag r.cost < 2 ^ 62

-- S4: a run by its two costs
abbrev pub join_by : ℕ → ℕ → ℤ → ℤ → Join
join_by i n rise fall = record { first = i; len = n; rise = lt_z rise fall; cost = cond (lt_z rise fall) rise fall }

-- S4: the run, if it is joinable
abbrev pub where_below : Join → Option Join
where_below j = cond (lt_z j.cost (pos 0)) (some j) none
