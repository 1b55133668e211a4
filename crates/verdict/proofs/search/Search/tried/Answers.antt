-- The weight is the part's.
use Rattle.std.proofs.Common.{◌≡◌, refl, ap, ◌∙◌, cond, ℤ, to_z, of_z, w64}
use Rattle.std.specs.Int.Signed.{lt_z}
use Rattle.pooling.specs.Blocks.{direction, blocks}
use Rattle.verdict.specs.Test.{part_weight}
use Rattle.verdict.proofs.Machine.{handed-back}
use Rattle.verdict.proofs.Range.{in-range}
use Rattle.verdict.proofs.Caps.{turn-ordered}
use Rattle.verdict.proofs.search.Search.tried.Goals as goal

pub part_counts-k-requires : goal.part_counts-k-requires
part_counts-k-requires c =
    let s = c.args.self.now.stretch in
    (turn-ordered (direction s.rising) s.h.now s.places.now c.args.turn c.args.i c.args.j s.held.places c.requires.visits, c.requires.visits.0)

pub weight-requires : goal.weight-requires
weight-requires c =
    let s = c.args.self.now.stretch in
    let small = s.held.small in
    let o = turn-ordered (direction s.rising) s.h.now s.places.now c.args.turn c.args.i c.args.j s.held.places c.requires.visits in
    rw (c.counts-n.ensures, c.part_counts-k.ensures, c.part_mass-m.ensures)
    (small.counts, in-range (direction s.rising) s.h.now small.bins small.counts c.args.i c.args.j o c.requires.visits.0)

pub returns : goal.returns
unfolding part_weight
returns c =
    let s = c.args.self.now.stretch in
    let found = rw c.counts-n.ensures at c.better.ensures in
    let weight_is : to_z w64 (of_z w64 c.weight.result) ≡ part_weight s.h.now (blocks (direction s.rising) s.h.now) c.args.i c.args.j =
    handed-back c.weight.type_inv ∙ c.weight.ensures ∙ rw (c.counts-n.ensures, c.part_counts-k.ensures, c.part_mass-m.ensures) refl in
    record { larger = found.0 ∙ ap (λ (z : ℤ). cond (lt_z c.args.best.weight z) z c.args.best.weight) weight_is; spares = found.1 }
