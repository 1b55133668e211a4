-- What stays true from the first segments of a line to its modes: inner peaks lie strictly between separators, and no mode is empty. No public promise cites it. Assumes nothing.
use Rattle.std.specs.Prelude.{ℕ, suc, ◌-◌, ◌<◌, cond, List, eqb, length, take, drop}
use Rattle.lists.specs.Lists.{total}
use Rattle.segmentation.specs.Segments.{Segment, segment_at}

-- only the first peak may be bin 0, and only the last peak may be the last bin
pub record Inside (ss : List Segment) : Type 0 where
  pub after_start : (m : ℕ) → 0 < m → m < length ss → (segment_at ss m).start < (segment_at ss m).peak
  pub before_end : (m : ℕ) → suc m < length ss → (segment_at ss m).peak < (segment_at ss m).end

-- S8: how many counts the bins of mode m hold.
-- A mode ends after its start, so the difference is never negative
unfoldable pub mode_count : List ℕ → List Segment → ℕ → ℕ
mode_count h ss m =
    let s = segment_at ss m in
    total (take (cond (eqb (suc m) (length ss)) (suc s.end) s.end - s.start) (drop s.start h))
