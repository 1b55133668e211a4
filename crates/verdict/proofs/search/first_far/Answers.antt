-- Each part that is looked at is one of the turn's.
use Rattle.std.proofs.Common.{◌≡◌, ℕ, ◌<◌, ◌≤◌, List, length, sym, ◌∙◌, arith}
use Rattle.std.proofs.Math.Nat.{le_trans, lt_of_lt_of_le}
use Rattle.lists.proofs.Cases.{by_order}
use Rattle.pooling.specs.declared.Place.{Place}
use Rattle.pooling.specs.Blocks.{Direction, direction}
use Rattle.verdict.specs.declared.parts.Turn.{Turn}
use Rattle.verdict.specs.Scratch.{PlacesHeld, first_of, end_of, start_of}
use Rattle.verdict.proofs.Range.{in-range}
use Rattle.verdict.proofs.Caps.{turn-ordered}
use Rattle.verdict.proofs.search.first_far.Goals as goal

ordered : (w : Direction) (h : List ℕ) (ps : List Place) (turn : Turn) (j first end i : ℕ) → PlacesHeld w h ps
    → (j < length h) × (first_of turn (start_of ps j) ≤ first) × (first ≤ end) × (end ≤ end_of turn (start_of ps j) j) → first ≤ i → i < end → i ≤ j
ordered w h ps turn j first end i held r a b = turn-ordered w h ps turn i j held (r.0, le_trans r.1 a, lt_of_lt_of_le b r.3)

pub loop-i-init : goal.loop-i-init
loop-i-init c k a b = absurd (omega arith)

pub part_counts-k-requires : goal.part_counts-k-requires
part_counts-k-requires c =
    let s = c.args.s.now in
    (ordered (direction s.rising) s.h.now s.places.now c.args.turn c.args.j c.args.first c.args.end c.loop-i.i s.held.places c.requires.j_in_bounds c.loop-i.auto.i c.loop-i-test.true, c.requires.j_in_bounds.0)

pub is_near-requires : goal.is_near-requires
is_near-requires c =
    let s = c.args.s.now in
    let w = direction s.rising in
    let o = ordered w s.h.now s.places.now c.args.turn c.args.j c.args.first c.args.end c.loop-i.i s.held.places c.requires.j_in_bounds c.loop-i.auto.i c.loop-i-test.true in
    rw (c.counts-n.ensures, c.part_counts-k.ensures, c.part_mass-m.ensures) (record {
      logs_defined = in-range w s.h.now s.held.small.bins s.held.small.counts c.loop-i.i c.args.j o c.requires.j_in_bounds.0;
      usable = c.requires.usable;
    })

pub loop-i-preserved : goal.loop-i-preserved
loop-i-preserved c i a b =
    by_order i c.loop-i.i
    (λ u. c.loop-i.invariant i a u)
    (λ u. let e : i ≡ c.loop-i.i = omega arith in rw e (rw (c.counts-n.ensures, c.part_counts-k.ensures, c.part_mass-m.ensures) at (sym c.is_near.ensures ∙ c.if-not-is_near.false)))
