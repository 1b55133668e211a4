-- The largest ring, and the largest stretch that is allowed for: a full turn of such a ring, from a separator round to it again, has one bin more. A separator is the lowest
-- bin or lower than the one before it, so it holds at most half of the counts, and the sum with that bin twice is at most 98,304. Assumes nothing.
use Rattle.std.specs.Prelude.{ℕ, ◌≤◌, List, length}
use Rattle.lists.specs.Lists.{total}

abbrev pub most_ring_bins : ℕ
most_ring_bins = 256

abbrev pub most_ring_counts : ℕ
most_ring_counts = 65536

abbrev pub most_bins : ℕ
most_bins = 257

abbrev pub most_counts : ℕ
most_counts = 98304

pub record Small (h : List ℕ) : Type 0 where
  pub bins : length h ≤ most_bins
  pub counts : total h ≤ most_counts
