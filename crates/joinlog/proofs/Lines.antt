-- The joins of a line. Assumes nothing.
use Prim.Native.Nat.{ℕ, ◌+◌, ◌-◌, ◌≤◌, ◌<◌}
use mathlib.Core.List.{List, [], ◌∷◌, ◌++◌}
use native.Mathlib.Omega.{arith}
use lib.ListN.{length, take, drop, length-append}
use Rattle.lists.specs.Lists.{numbers, filter}
use Rattle.verdict.specs.Test.{Closeness}
use Rattle.segmentation.specs.declared.Line.{Line}
use Rattle.segmentation.specs.declared.Segments.{Segments}
use Rattle.segmentation.specs.Segments.{is_valley, first_separators, segments_from, first_segments}
use Rattle.segmentation.specs.Joining.{line_reader, joined, join, line_joins, line_modes}
use Rattle.segmentation.proofs.Settled.{join-all-keeps, line-shortens}
use Rattle.segmentation.proofs.FirstCut.{first-cut}
use Rattle.segmentation.proofs.Applied.{cut-count}
use Rattle.segmentation.specs.Held.{held}
use Rattle.segmentation.specs.Runs.{reader_of, joins_of, OnLine}
use Rattle.segmentation.proofs.Holding.{held-length}
use Rattle.segmentation.proofs.Stepping.{on-line-count}
use Rattle.joinlog.specs.JoinLog.{joins_made, made_on_line}
use Rattle.joinlog.proofs.Made.{made-drop}

module _ (e : Closeness) (h : List ℕ) where
  -- a line has a segment, and some are left when runs of them are joined
  some-segments : 0 < length (first_segments h)
  unfolding first_segments first_separators segments_from
  some-segments = go 0 (filter (is_valley h) (numbers 1 (length h - 2))) (length h - 1)
    where
      go : (s : ℕ) (ts : List ℕ) (t : ℕ) → 0 < length (segments_from h s (ts ++ (t ∷ [])))
      go s [] t = omega arith
      go s (r ∷ ts) t = omega arith

  some-modes : 0 < length (line_modes e h)
  unfolding line_modes join
  some-modes =
      join-all-keeps (line_joins e (line_reader h)) (λ ss. 0 < length ss)
      (λ ss j q l. omega (arith, length-append (take j.first ss) (joined ss j ∷ drop (j.first + j.len) ss)))
      (length (first_segments h)) (first_segments h) some-segments

  -- fewer joins than segments, and so than bins
  pub line-made-few : length (made_on_line e h) < length (first_segments h)
  unfolding made_on_line line_modes
  line-made-few =
      let drop = made-drop (line_joins e (line_reader h)) (line-shortens e (line_reader h)) (length (first_segments h)) (first_segments h) in
      omega (arith, drop, some-modes)

  pub line-made-below : 2 ≤ length h → length (made_on_line e h) < length h
  line-made-below two = omega (arith, line-made-few, cut-count (first-cut h two))

-- of segments that are held and cut a line fewer joins are made than it has bins
pub held-made-few : {N : ℕ} (line : Line) (s : Segments N) → OnLine line s → length (joins_made s.count (joins_of line) (held s)) < length line.bins.now
held-made-few line s on =
    let drop = made-drop (joins_of line) (line-shortens line.closeness (reader_of line)) s.count (held s) in
    omega (arith, drop, held-length s.separators s.peaks 0 s.count, on-line-count line s on)
