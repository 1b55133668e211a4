-- The limit is the cap and the bar, and all three figures are small.
use Rattle.std.proofs.Common.{◌∙◌, ◌+ℤ◌, ◌-ℤ◌, length, arith, rules, w64}
use mir.ValLaws.{to_z-of_z}
use Rattle.pooling.specs.Blocks.{direction}
use Rattle.verdict.specs.Test.{bar}
use Rattle.verdict.specs.Settings.{Offered}
use Rattle.verdict.proofs.Machine.{handed-back, sum_fits, less-fits}
use Rattle.verdict.proofs.Sizes.{bar-small}
use Rattle.verdict.proofs.Caps.{attained-small, capped-cost-is}
use Rattle.verdict.proofs.costs.capped_cost.Goals as goal

pub overflow_add-cap : goal.overflow_add-cap
overflow_add-cap c =
    let b = bar c.args.closeness (length c.args.h.now) in
    let offered : Offered c.args.closeness = search rules in
    let small = bar-small c.args.closeness (length c.args.h.now) offered c.requires.in_bounds c.requires.small.bins in
    rw (to_z-of_z w64 c.args.cap c.ranges.cap, handed-back c.bar-height.type_inv, c.bar-height.ensures)
    (sum_fits c.args.cap b c.requires.cap_bound (omega (arith, small)))

pub overflow_sub-result : goal.overflow_sub-result
overflow_sub-result c =
    let b = bar c.args.closeness (length c.args.h.now) in
    let offered : Offered c.args.closeness = search rules in
    let small = bar-small c.args.closeness (length c.args.h.now) offered c.requires.in_bounds c.requires.small.bins in
    rw (handed-back {z = c.best_of.result} c.best_of.type_inv, handed-back {z = c.bar-height.result} c.bar-height.type_inv, c.bar-height.ensures)
    (less-fits c.best_of.result b (omega (arith, attained-small (direction c.args.rising) c.args.h.now c.requires.small c.best_of.result c.best_of.ensures.attained)) (omega (arith, small)))

pub returns : goal.returns
returns c =
    let b = bar c.args.closeness (length c.args.h.now) in
    let offered : Offered c.args.closeness = search rules in
    let small = bar-small c.args.closeness (length c.args.h.now) offered c.requires.in_bounds c.requires.small.bins in
    let least = attained-small (direction c.args.rising) c.args.h.now c.requires.small c.best_of.result c.best_of.ensures.attained in
    let height = handed-back {z = c.bar-height.result} c.bar-height.type_inv ∙ c.bar-height.ensures in
    let best = handed-back {z = c.best_of.result} c.best_of.type_inv in
    let cap = to_z-of_z w64 c.args.cap c.ranges.cap in
    let limit = to_z-of_z w64 (c.args.cap +ℤ b) (sum_fits c.args.cap b c.requires.cap_bound (omega (arith, small))) in
    let whole = to_z-of_z w64 (c.best_of.result -ℤ b) (less-fits c.best_of.result b (omega (arith, least)) (omega (arith, small))) in
    rw (height, best, whole)
    (capped-cost-is c.args.closeness (direction c.args.rising) c.args.h.now c.args.cap c.best_of.result c.requires.small c.requires.in_bounds offered
    (rw (height, cap, limit) at c.best_of.ensures))
