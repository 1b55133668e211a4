-- No mode of a line or of a ring with counts is empty. Assumes nothing.
use Prim.Native.Nat.{ℕ, suc, ◌+◌, ◌-◌, ◌≤◌, ◌<◌}
use mathlib.Core.Path.{◌≡◌, refl, ap, ◌∙◌}
use mathlib.Core.Bool.{Bool, true, false, cond}
use mathlib.Core.List.{List}
use mathlib.Core.Option.{some}
use native.Mathlib.Omega.{arith}
use lib.Dec.{eqb}
use lib.ListN.{length, take, drop}
use borrow.Author.Tests.{eqb-true}
use Rattle.lists.specs.Lists.{total}
use Rattle.lists.proofs.Cases.{by_order}
use Rattle.lists.proofs.Places.{some-in-part}
use Rattle.lists.proofs.Rotations.{mod-above}
use Rattle.verdict.specs.Test.{Closeness}
use Rattle.segmentation.specs.Segments.{Segment, segment_at, bin_at, in_mode}
use Rattle.segmentation.specs.Joining.{Join, line_modes}
use Rattle.segmentation.specs.Around.{next_round, join_round}
use Rattle.segmentation.specs.Ring.{opening, opened, ring_bin, from_opening, round_reader, ring_modes, in_arc, in_round, in_ring_mode}
use Rattle.segmentation.specs.Inside.{mode_count}
use Rattle.segmentation.specs.Runs.{OnRing}
use Rattle.segmentation.proofs.Kept.{chain-ends}
use Rattle.segmentation.proofs.OneMode.{in-mode, in-last-mode, mode-from, mode-before}
use Rattle.segmentation.proofs.Finishing.{modes-cut, modes-counts}
use Rattle.segmentation.proofs.RingPlaces.{opening-in, opening-lowest, ring-length, ring-bins, ring-total, ring_in, ring-later, bin-place}
use Rattle.segmentation.proofs.RoundKept.{round-run, round-arcs}
use Rattle.segmentation.proofs.RoundOne.{in-arc, left_or, right_or}
use Rattle.segmentation.proofs.RingModes.{kept-round, ring_cut}

-- ---- a bin of each mode that holds a count, on a line
pub line-bin : (e : Closeness) (h : List ℕ) → 2 ≤ length h → 0 < total h
    → (m : ℕ) → m < length (line_modes e h) → (j : ℕ) × (j < length h) × (in_mode (line_modes e h) m j ≡ true) × (0 < bin_at h j)
unfolding mode_count
line-bin e h two filled m l = go (eqb (suc m) (length ss)) refl (modes-counts e h two filled m l)
  where
    ss : List Segment
    ss = line_modes e h

    start : ℕ
    start = (segment_at ss m).start

    end : ℕ
    end = (segment_at ss m).end

    go : (t : Bool) → eqb (suc m) (length ss) ≡ t → 0 < total (take (cond t (suc end) end - start) (drop start h))
        → (j : ℕ) × (j < length h) × (in_mode ss m j ≡ true) × (0 < bin_at h j)
    go true q s =
        let r = some-in-part start (suc end - start) h s in
        let up = (modes-cut e h two).chain.ascending m l in
        let j = r.0 in
        let from = r.1 in
        let to = r.2 in
        (j, r.3, by_order j end (in-mode ss m j from) (λ u. in-last-mode ss m j from (eqb-true (suc m) (length ss) q) (omega arith)), r.4)
    go false q s =
        let r = some-in-part start (end - start) h s in
        let up = (modes-cut e h two).chain.ascending m l in
        let j = r.0 in
        let from = r.1 in
        let to = r.2 in
        (j, r.3, in-mode ss m j from (omega arith), r.4)

-- ---- a place of each mode whose bin holds a count, on a ring
abbrev FilledModes : List ℕ → List Segment → Type 0
FilledModes h ss = (m : ℕ) → m < length ss → (p : ℕ) × ((segment_at ss m).start ≤ p) × (p < (segment_at ss m).end) × (0 < bin_at h (ring_bin h p))

module _ (e : Closeness) (h : List ℕ) (two : 2 ≤ length h) (filled : 0 < total h) where
  one : 1 ≤ length h
  one = omega arith

  wraps : (j : ℕ) → j ≡ length h → ring_bin h j ≡ opening h
  unfolding ring_bin
  wraps j q = let o = opening-in h one in mod-above (opening h + j) (length h) (omega arith) (omega arith) ∙ omega arith

  -- the line's last bin repeats the ring's lowest: where that is above 0 every bin of the ring is, and the mode's first bin is another
  line-filled : FilledModes h (line_modes e (opened h))
  line-filled m l =
      let ss = line_modes e (opened h) in
      let longer = ring-length h one in
      let cut = modes-cut e (opened h) (omega arith) in
      let s = (segment_at ss m).start in
      let r = line-bin e (opened h) (omega arith) (omega (arith, ring-total h one)) m l in
      let j = r.0 in
      let in_line = r.1 in
      let above = r.3 in
      let from = mode-from ss m j r.2 in
      by_order j (length h)
      (λ u. (j, from, before m j l r.2 u, omega (arith, ring-bins h one j (omega arith))))
      (λ u.
      (s, omega arith, cut.chain.ascending m l, omega (arith, ring-bins h one j (omega arith), ap (bin_at h) (wraps j (omega arith)), opening-lowest h (ring_bin h s) (ring_in h one s))))
    where
      before : (m j : ℕ) → m < length (line_modes e (opened h)) → in_mode (line_modes e (opened h)) m j ≡ true → j < length h → j < (segment_at (line_modes e (opened h)) m).end
      before m j l t u =
          let ss = line_modes e (opened h) in
          let longer = ring-length h one in
          let cut = modes-cut e (opened h) (omega arith) in
          by_order (suc m) (length ss) (mode-before ss m j t)
          (λ k.
          let last : m ≡ length ss - 1 = omega arith in
          omega (arith, ap (λ (i : ℕ). (segment_at ss i).end) last, cut.to_last_bin))

  ring-filled : FilledModes h (ring_modes e h)
  ring-filled = (kept-round h two e (FilledModes h) keeps line-filled).1
    where
      keeps : (ss : List Segment) (j : Join) → next_round e (round_reader h) (length h) ss ≡ some j → OnRing (length h) (from_opening h) ss
          → FilledModes h ss → FilledModes h (join_round (length h) ss j)
      keeps ss j q on filled m l =
          let r = round-arcs on.cut j (round-run e (round_reader h) (length h) ss j q) m l in
          let w = filled r.0 r.1 in
          (w.0, omega (arith, w.1, r.2), omega (arith, w.2, r.3), w.3)

  -- a place of the second turn has its bin in the first
  second : (p : ℕ) → length h ≤ p → ring_bin h p ≡ ring_bin h (p - length h)
  second p l = let z : p ≡ p - length h + length h = omega arith in ap (ring_bin h) z ∙ ring-later h one (p - length h)

  pub ring-bin : (m : ℕ) → m < length (ring_modes e h) → (b : ℕ) × (b < length h) × (in_ring_mode e h m b ≡ true) × (0 < bin_at h b)
  unfolding in_ring_mode in_round
  ring-bin m l =
      let ss = ring_modes e h in
      let s = segment_at ss m in
      let cut = ring_cut h two e in
      let r = ring-filled m l in
      let p = r.0 in
      let here = in-arc s p r.1 r.2 in
      let end = chain-ends ss cut.chain m (length ss - 1) (omega arith) (omega arith) in
      let most : p < length h + length h = omega (arith, r.2, end, cut.once_round, cut.first_turn 0 cut.non_empty) in (
        ring_bin h p,
        ring_in h one p,
        by_order p (length h)
            (λ u. rw (bin-place h one p u) (left_or (in_arc s p) (in_arc s (p + length h)) here))
            (λ u.
            let d = p - length h in
            let z : d + length h ≡ p = omega arith in
            rw (second p u, bin-place h one d (omega arith), z) (right_or (in_arc s d) (in_arc s p) here)),
        r.3,
      )
