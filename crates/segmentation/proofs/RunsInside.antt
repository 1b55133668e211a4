-- The stretches of the runs that are searched lie within what is read, and are small enough to be tested: along a line, and round a ring. Assumes nothing.
use Prim.Native.Nat.{ℕ, suc, ◌+◌, ◌-◌, ◌≤◌, ◌<◌}
use mathlib.Core.Path.{◌≡◌, sym, ap, subst, ◌∙◌}
use mathlib.Core.Bool.{true, false}
use mathlib.Core.List.{List, ◌++◌}
use native.Mathlib.Omega.{arith}
use lib.ListN.{length, get_or, length-append, length-take, length-drop}
use Rattle.lists.specs.Lists.{total, part}
use Rattle.lists.proofs.Cases.{by_order}
use Rattle.lists.proofs.Sums.{total-part-le}
use Rattle.pooling.specs.Limits.{most_ring_bins, most_ring_counts, Small}
use Rattle.segmentation.specs.Segments.{Segment, segment_at}
use Rattle.segmentation.specs.Around.{twice}
use Rattle.segmentation.specs.Finished.{Chain, Cut}
use Rattle.segmentation.specs.Held.{segments_held}
use Rattle.segmentation.specs.Runs.{Within, RunInside, AllInside, OnRing}
use Rattle.segmentation.proofs.Kept.{chain-ends, between}
use Rattle.segmentation.proofs.Finishing.{part_length}
use Rattle.segmentation.proofs.Holding.{held-length, held_at}
use Rattle.segmentation.proofs.TwoTurns.{part-once, part-turn}
use Rattle.segmentation.proofs.Turned.{twice-first, twice-chain, round-end}

-- ---- as two lists hold the segments
module _ (s p : List ℕ) (held : ℕ) (chain : Chain (segments_held s p 0 held)) (i len : ℕ) (one : 1 ≤ len) (fit : i + len ≤ held) where
  abbrev all : List Segment
  all = segments_held s p 0 held

  first-start : (segment_at all i).start ≡ get_or s i 0
  first-start = ap (λ (x : Segment). x.start) (held_at s p held i (omega arith))

  first-peak : (segment_at all i).peak ≡ get_or p i 0
  first-peak = ap (λ (x : Segment). x.peak) (held_at s p held i (omega arith))

  last-peak : (segment_at all (i + len - 1)).peak ≡ get_or p (i + len - 1) 0
  last-peak = ap (λ (x : Segment). x.peak) (held_at s p held (i + len - 1) (omega arith))

  last_end : (segment_at all (i + len - 1)).end ≡ get_or s (i + len) 0
  last_end =
      let z : suc (i + len - 1) ≡ i + len = omega arith in
      ap (λ (x : Segment). x.end) (held_at s p held (i + len - 1) (omega arith)) ∙ ap (λ (k : ℕ). get_or s k 0) z

  -- both stretches of a run lie where all that lie between its first separator and its last one do
  run_inside : (h : List ℕ) → ((a b : ℕ) → (segment_at all i).start ≤ a → a ≤ b → b ≤ (segment_at all (i + len - 1)).end → Within h a b) → RunInside h s p i len
  run_inside h within =
      let b = between all chain i len one (omega (arith, held-length s p 0 held)) in
      record {
        fall = rw (first-peak, last_end) at (within (segment_at all i).peak (segment_at all (i + len - 1)).end b.fall_from b.fall_to (omega arith));
        rise = rw (first-start, last-peak) at (within (segment_at all i).start (segment_at all (i + len - 1)).peak (omega arith) b.rise_from b.rise_to);
      }

-- ---- a stretch of a line: it is no larger than the line, and has a bin
part_small : (i j : ℕ) (h : List ℕ) → i ≤ j → Small h → Small (part i j h)
unfolding part
part_small i j h l s = record {
  bins = simp (length-take, length-drop) (omega (arith, s.bins));
  counts = omega (arith, total-part-le i j h (omega arith), s.counts);
}

-- the last separator of a cut line is its last bin
pub line-end : {bins : ℕ} {ss : List Segment} → Cut bins ss → (m : ℕ) → m < length ss → (segment_at ss m).end < bins
line-end {bins} {ss} c m l = omega (arith, c.to_last_bin, chain-ends ss c.chain m (length ss - 1) (omega arith) (omega arith))

pub line-inside : (h s p : List ℕ) (n : ℕ) → Small h → Cut (length h) (segments_held s p 0 n) → AllInside h s p false n
line-inside h s p n small cut len two all i l =
    let fit : i + len ≤ n = omega arith in
    let end = line-end cut (i + len - 1) (omega (arith, held-length s p 0 n)) in
    run_inside s p n cut.chain i len (omega arith) fit h (λ a b x y z. record { ends = (y, omega arith); small = part_small a b h y small })

-- ---- a stretch of a ring, within a turn from a separator: a full turn has the bin of the separator twice
module _ (turn : List ℕ) (few : length turn ≤ most_ring_bins) (sum : total turn ≤ most_ring_counts) (ss : List Segment) (on : OnRing (length turn) turn ss) where
  turn-within : (m : ℕ) → m < length ss → (i j : ℕ) → (segment_at ss m).start ≤ i → i ≤ j → j ≤ (segment_at ss m).start + length turn → Within (turn ++ turn) i j
  turn-within m l i j a b d =
      let s = (segment_at ss m).start in
      let f = on.cut.first_turn m l in
      let n = length-append turn turn in
      record {
        ends = (b, omega arith);
        small = record {
          bins = omega (arith, part_length i j (turn ++ turn) b (omega arith));
          counts =
              by_order j (i + length turn)
              (λ u. omega (arith, part-once turn i j b u (omega arith)))
              (λ u.
              let p : i ≡ s = omega arith in
              let q : j ≡ s + length turn = omega arith in
              rw (p, q) (omega (arith, part-turn turn s f, on.low m l)));
        };
      }

  pub ring-inside : (s p : List ℕ) (n : ℕ) → n ≡ length ss → segments_held s p 0 (n + n) ≡ twice (length turn) ss → AllInside (turn ++ turn) s p true n
  ring-inside s p n count held len two all i l =
      let c = on.cut in
      let here : i < length ss = omega arith in
      let chain = subst Chain (sym held) (twice-chain c) in
      let start = ap (λ (xs : List Segment). (segment_at xs i).start) held ∙ ap (λ (x : Segment). x.start) (twice-first (length turn) ss i here) in
      let end = ap (λ (xs : List Segment). (segment_at xs (i + len - 1)).end) held in
      let last = round-end c i len here (omega arith) (omega arith) in
      run_inside s p (n + n) chain i len (omega arith) (omega arith) (turn ++ turn) (λ a b x y z. turn-within i here a b (omega arith) y (omega arith))
