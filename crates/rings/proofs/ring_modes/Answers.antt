-- The modes that are found start where they are held. Assumes nothing.
use Rattle.std.proofs.Common.{ℕ, ◌≡◌, ◌+◌, ◌≤◌, List, ◌++◌, length, take, drop, sym, ap, ap₂, ◌∙◌, arith}
use Rattle.std.proofs.Math.ListN.{length-map}
use Rattle.std.proofs.Math.Seq.{length-take-le}
use Rattle.lists.specs.Lists.{over}
use Rattle.lists.proofs.Buffers.{over-front}
use Rattle.segmentation.specs.Segments.{Segment}
use Rattle.segmentation.specs.Ring.{two_turns, ring_modes}
use Rattle.segmentation.proofs.TwoTurns.{turns-length}
use Rattle.segmentation.proofs.HeldStarts.{ring-held-count, ring-held-starts, ring-modes-most}
use Rattle.rings.proofs.ring_modes.Goals as goal

-- the first places of the buffer hold the two turns
turns-are : (h buffer : List ℕ) → 1 ≤ length h → take (length h + length h) (over (two_turns h) buffer) ≡ two_turns h
turns-are h buffer one = over-front (two_turns h) buffer (length h + length h) (sym (turns-length h one))

pub ring-requires : goal.ring-requires
ring-requires c =
    let h = c.args.h.now in
    let p = c.requires.in_bounds in
    record { in_bounds = (p.0, p.1, p.2, ap (take (length h + length h)) c.write_turns.ensures ∙ turns-are h _ (omega (arith, p))) }

pub slice_bounds-copy_from_slice-end : goal.slice_bounds-copy_from_slice-end
slice_bounds-copy_from_slice-end c =
    let h = c.args.h.now in
    let e = c.args.closeness in
    let t = c.ring.new.modes in
    omega (arith, ring-held-count e h t.separators t.peaks t.count c.requires.in_bounds.0 c.ring.ensures, ring-modes-most e h c.requires.in_bounds.0, c.requires.h_in_bounds)

pub slice_bounds-copy_from_slice-end-2 : goal.slice_bounds-copy_from_slice-end-2
slice_bounds-copy_from_slice-end-2 c =
    let h = c.args.h.now in
    let e = c.args.closeness in
    let t = c.ring.new.modes in
    let few = ring-held-count e h t.separators t.peaks t.count c.requires.in_bounds.0 c.ring.ensures in
    sym (length-take-le t.count c.args.places.now (omega (arith, ring-modes-most e h c.requires.in_bounds.0, c.requires.h_in_bounds)))

pub copy_from_slice-requires : goal.copy_from_slice-requires
copy_from_slice-requires c =
    let h = c.args.h.now in
    let e = c.args.closeness in
    let t = c.ring.new.modes in
    let few = ring-held-count e h t.separators t.peaks t.count c.requires.in_bounds.0 c.ring.ensures in
    length-take-le t.count c.args.places.now (omega (arith, ring-modes-most e h c.requires.in_bounds.0, c.requires.h_in_bounds)) ∙ sym (length-take-le t.count t.separators (omega (arith, t.room)))

pub returns : goal.returns
unfolding over
returns c =
    let h = c.args.h.now in
    let e = c.args.closeness in
    let t = c.ring.new.modes in
    let two = c.requires.in_bounds.0 in
    let count = ring-held-count e h t.separators t.peaks t.count two c.ring.ensures in (
      c.lowest_bin-opening.ensures,
      count,
      ap₂ (λ (xs : List ℕ) (n : ℕ). xs ++ drop n c.args.places.now) (c.copy_from_slice.ensures.after ∙ ring-held-starts e h t.separators t.peaks t.count two c.ring.ensures (omega (arith, t.room)))
          (count ∙ sym (length-map (ring_modes e h) (λ (s : Segment). s.start))),
    )
