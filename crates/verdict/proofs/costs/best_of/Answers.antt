-- What is kept about the stretch is filled in, and the whole stretch weighs 0.
use Rattle.std.proofs.Common.{refl, w64}
use mir.ValLaws.{to_z-of_z}
use Rattle.pooling.specs.Blocks.{direction, blocks}
use Rattle.verdict.proofs.Scratch.{places-held}
use Rattle.verdict.proofs.Caps.{whole-attained, best_none, best-stops}
use Rattle.verdict.proofs.costs.best_of.Goals as goal

pub returns-then-whole_is_enough : goal.returns-then-whole_is_enough
returns-then-whole_is_enough c =
    let bs = blocks (direction c.args.rising) c.args.h.now in
    let w = whole-attained (direction c.args.rising) c.args.h.now c.requires.in_bounds refl in
    best-stops c.args.h.now bs c.args.limit (best_none c.args.h.now bs c.args.limit {visited = λ i j. ⊥} w (λ i j v. v)) (rw (to_z-of_z w64 c.args.limit c.ranges.limit) at c.if-whole_is_enough.true)

pub invariant_of-search : goal.invariant_of-search
invariant_of-search c =
    record { held = record { small = c.requires.small; running = c.running_totals.ensures; places = places-held (direction c.args.rising) c.args.h.now _ _ c.fit_places.ensures } }
