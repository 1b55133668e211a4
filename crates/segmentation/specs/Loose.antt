-- When a line keeps its first segments as its modes. Assumes nothing.
--   LowBars            the bar of every stretch of a line of so many bins is 0 or less
--   LowBarNeverJoins   what such a bar means for one stretch
--   NothingJoins       what such bars mean for a line
--   KeptAtMinusTen     so it is at the least closeness on a line of up to 44 bins; RingKeptAtMinusTen: on a ring of up to 43
use Rattle.std.specs.Prelude.{ℕ, ◌≤◌, ◌<◌, ◌≡◌, List, length, pos, ◌≤ℤ◌}
use Rattle.pooling.specs.Blocks.{Direction}
use Rattle.verdict.specs.Test.{Closeness, least_closeness, bar, cost}
use Rattle.segmentation.specs.Segments.{first_segments}
use Rattle.segmentation.specs.Joining.{line_modes}
use Rattle.segmentation.specs.Ring.{opened, ring_modes}

-- T4: no stretch of up to so many bins has a bar above 0. A stretch has one bin or more
abbrev pub LowBars : Closeness → (bins : ℕ) → Type 0
LowBars e bins = (l : ℕ) → 1 ≤ l → l ≤ bins → bar e l ≤ℤ pos 0

-- T5, S4: a stretch whose bar is 0 or less costs 0 or more, so no run is joined by it, however long its line is: the whole of the stretch weighs 0, and
-- the largest weight is not below that. Proved in proofs/Loose
abbrev pub LowBarNeverJoins : Type 0
LowBarNeverJoins = (e : Closeness) (w : Direction) (h : List ℕ) → 1 ≤ length h → bar e (length h) ≤ℤ pos 0 → pos 0 ≤ℤ cost e w h

-- S4, S7: where every bar is low no run of the line is joinable, and its first segments are its modes; proved in proofs/Loose
abbrev pub NothingJoins : Type 0
NothingJoins = (e : Closeness) (h : List ℕ) → LowBars e (length h) → line_modes e h ≡ first_segments h

-- T4: the most bins whose bar is 0 or less at the closeness −10: 44 · 45 / 2 = 990 parts are fewer than 2¹⁰, 45 · 46 / 2 = 1,035 are more
unfoldable pub kept_bins : ℕ
kept_bins = 44

-- S7: at the least closeness, −10, a line of up to 44 bins keeps all its first segments; proved in proofs/Loose
abbrev pub KeptAtMinusTen : Type 0
KeptAtMinusTen = (h : List ℕ) → length h ≤ kept_bins → line_modes least_closeness h ≡ first_segments h

-- R2, S7: so does a ring of up to 43 bins, whose line has one bin more; proved in proofs/Loose
abbrev pub RingKeptAtMinusTen : Type 0
RingKeptAtMinusTen = (h : List ℕ) → length h < kept_bins → ring_modes least_closeness h ≡ first_segments (opened h)
