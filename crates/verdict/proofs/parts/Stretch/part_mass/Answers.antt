-- The turn says whether the two ends of the part lie in one block.
use Rattle.std.proofs.Common.{◌∙◌, arith}
use Rattle.pooling.specs.Blocks.{direction}
use Rattle.verdict.proofs.Scratch.{visited-within, visited-across, spot-sum-le, spot-within, spots-differ, spots-apart, spots-across}
use Rattle.verdict.proofs.Caps.{turn-ordered}
use Rattle.verdict.proofs.parts.Stretch.part_mass.Goals as goal

pub mass_within-requires : goal.mass_within-requires
mass_within-requires c =
    let s = c.args.self.now in
    let w = direction s.rising in
    omega (
      arith,
      turn-ordered w s.h.now s.places.now c.args.turn c.args.i c.args.j s.held.places c.requires,
      spot-sum-le w s.h.now c.args.j c.place-q.result c.place-q.ensures c.requires.0,
      s.held.small,
    )

pub returns-in-WithinBlocks : goal.returns-in-WithinBlocks
returns-in-WithinBlocks c =
    let s = c.args.self.now in
    let w = direction s.rising in
    c.mass_within.ensures
    ∙ spot-within w s.h.now c.args.j c.place-q.result c.place-q.ensures c.requires.0 c.args.i
    (visited-within w s.h.now s.places.now c.args.j s.held.places c.place-q.result c.place-q.ensures c.args.i (rw c.in-WithinBlocks.is at c.requires))
    (turn-ordered w s.h.now s.places.now c.args.turn c.args.i c.args.j s.held.places c.requires)

pub place-requires : goal.place-requires
place-requires c =
    let s = c.args.self.now in
    omega (arith, turn-ordered (direction s.rising) s.h.now s.places.now c.args.turn c.args.i c.args.j s.held.places c.requires, c.requires.0)

pub mass_across-requires : goal.mass_across-requires
mass_across-requires c =
    let s = c.args.self.now in
    let w = direction s.rising in
    let o = turn-ordered w s.h.now s.places.now c.args.turn c.args.i c.args.j s.held.places c.requires in
    let a = visited-across w s.h.now s.places.now c.args.j s.held.places c.place-q.result c.place-q.ensures c.args.i (rw c.in-AcrossBlocks.is at c.requires) in
    spots-across w s.h.now c.args.i c.place.result c.place.ensures c.args.j c.place-q.result c.place-q.ensures o c.requires.0
    (spots-differ w s.h.now c.args.i c.place.result c.place.ensures c.args.j c.place-q.result c.place-q.ensures (omega (arith, o, c.requires.0)) a)

pub returns-in-AcrossBlocks : goal.returns-in-AcrossBlocks
returns-in-AcrossBlocks c =
    let s = c.args.self.now in
    let w = direction s.rising in
    let o = turn-ordered w s.h.now s.places.now c.args.turn c.args.i c.args.j s.held.places c.requires in
    let a = visited-across w s.h.now s.places.now c.args.j s.held.places c.place-q.result c.place-q.ensures c.args.i (rw c.in-AcrossBlocks.is at c.requires) in
    c.mass_across.ensures
    ∙ spots-apart w s.h.now c.args.i c.place.result c.place.ensures c.args.j c.place-q.result c.place-q.ensures
    (spots-differ w s.h.now c.args.i c.place.result c.place.ensures c.args.j c.place-q.result c.place-q.ensures (omega (arith, o, c.requires.0)) a)
