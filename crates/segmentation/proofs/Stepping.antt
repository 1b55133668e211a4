-- A line that is held, from its first segments on, and one step along it: the join that comes next is a run of the segments held, and making it leaves fewer segments that cut the line. Assumes nothing.
use Prim.Native.Nat.{ℕ, ◌+◌, ◌≤◌, ◌<◌}
use mathlib.Core.Path.{◌≡◌, sym, ap, subst}
use mathlib.Core.Option.{some}
use native.Mathlib.Omega.{arith}
use mathlib.Core.List.{List}
use lib.ListN.{length}
use Rattle.pooling.specs.Limits.{Small}
use Rattle.segmentation.specs.declared.Line.{Line}
use Rattle.segmentation.specs.declared.Segments.{Segments}
use Rattle.segmentation.specs.Segments.{Segment, first_segments}
use Rattle.segmentation.specs.Joining.{Join, join, next_join}
use Rattle.segmentation.specs.Held.{segments_held, held}
use Rattle.segmentation.specs.Finished.{Cut}
use Rattle.segmentation.specs.Runs.{reader_of, HeldOnLine, OnLine}
use Rattle.segmentation.proofs.Holding.{held-length}
use Rattle.segmentation.proofs.Kept.{Run, join-cut}
use Rattle.segmentation.proofs.FirstCut.{first-cut}
use Rattle.segmentation.proofs.Applied.{cut-count}
use Rattle.segmentation.proofs.Settled.{next-run, line-shortens}

-- the first segments of a line
pub first-on-line : {N : ℕ} (line : Line) (s : Segments N) → Small line.bins.now → 2 ≤ length line.bins.now → held s ≡ first_segments line.bins.now → OnLine line s
first-on-line line s small two is = record { small = small; cut = subst (Cut (length line.bins.now)) (sym is) (first-cut line.bins.now two) }

-- n segments of a line that two lists hold
module _ (line : Line) (s p : List ℕ) (n : ℕ) (on : HeldOnLine line s p n) where
  abbrev segments : List Segment
  segments = segments_held s p 0 n

  count : length segments ≡ n
  count = held-length s p 0 n

  -- there are fewer segments than bins, and one or more
  pub held-line-count : (1 ≤ n) × (n < length line.bins.now)
  held-line-count = (omega (arith, count, on.cut.non_empty), omega (arith, count, cut-count on.cut))

  module _ (j : Join) (next : next_join line.closeness (reader_of line) segments ≡ some j) where
    run : Run segments j
    run = next-run line.closeness (reader_of line) segments j next

    -- what `apply` asks for, beside room
    pub next-held : (2 ≤ j.len) × (j.first + j.len ≤ n)
    next-held = (run.two, omega (arith, run.within, count))

    -- t and q hold what is left once it is made
    module _ (t q : List ℕ) (left : ℕ) (made : segments_held t q 0 left ≡ join segments j) where
      pub held-fewer : left < n
      held-fewer = omega (arith, count, held-length t q 0 left, ap length made, (line-shortens line.closeness (reader_of line)).fewer segments j next)

      pub held-line-after : HeldOnLine line t q left
      held-line-after =
          record {
            small = on.small;
            cut = subst (Cut (length line.bins.now)) (sym made) (join-cut (length line.bins.now) segments j on.cut run);
          }

-- the same of a value of the code's
module _ {N : ℕ} (line : Line) (s : Segments N) (on : OnLine line s) where
  pub on-line-count : (1 ≤ s.count) × (s.count < length line.bins.now)
  on-line-count = held-line-count line s.separators s.peaks s.count on

  module _ (j : Join) (next : next_join line.closeness (reader_of line) (held s) ≡ some j) where
    pub next-within : (2 ≤ j.len) × (j.first + j.len ≤ s.count)
    next-within = next-held line s.separators s.peaks s.count on j next

    module _ (t : Segments N) (made : held t ≡ join (held s) j) where
      pub fewer : t.count < s.count
      fewer = held-fewer line s.separators s.peaks s.count on j next t.separators t.peaks t.count made

      pub on-line-after : OnLine line t
      on-line-after = held-line-after line s.separators s.peaks s.count on j next t.separators t.peaks t.count made
