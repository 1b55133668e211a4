-- How the code holds the modes of a ring: twice over, so that a run past the last mode is a plain one. No public promise cites it. Assumes nothing.
use Rattle.std.specs.Prelude.{ℕ, ◌+◌, ◌≤◌, ◌<◌, ◌≡◌, List, ◌++◌, length, get_or}
use Rattle.lists.specs.Lists.{total}
use Rattle.pooling.specs.Limits.{most_ring_bins, most_ring_counts}
use Rattle.segmentation.specs.declared.Line.{Line}
use Rattle.segmentation.specs.declared.Segments.{Segments}
use Rattle.segmentation.specs.Held.{held}
use Rattle.segmentation.specs.Runs.{Prepared, OnRing}

-- two turns of a ring of `bins` bins, and its modes, with room for them twice over
pub record RingHeld {N : ℕ} (line : Line) (modes : Segments N) (bins : ℕ) : Type 0 where
  pub turn : List ℕ
  pub turns : line.bins.now ≡ turn ++ turn
  pub as_long : length turn ≡ bins
  pub limits : (bins ≤ most_ring_bins) × (total turn ≤ most_ring_counts)
  pub prepared : Prepared modes.separators modes.peaks (modes.count + modes.count)
  pub on_ring : OnRing bins turn (held modes)

-- the n members from number `from` on are no larger than a bound
abbrev pub EachTo : (bound : ℕ) (xs : List ℕ) (from n : ℕ) → Type 0
EachTo bound xs from n = (k : ℕ) → k < n → get_or xs (from + k) 0 ≤ bound

-- the n members from number `from` on stand again behind them, `by` more each; they and what comes before them stay
pub record Repeated (before after : List ℕ) (from n by : ℕ) : Type 0 where
  pub kept : (m : ℕ) → m < from + n → get_or after m 0 ≡ get_or before m 0
  pub again : (k : ℕ) → k < n → get_or after (from + n + k) 0 ≡ get_or before (from + k) 0 + by
