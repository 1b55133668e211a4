-- No cost reaches the cap.
use Rattle.std.proofs.Common.{◌∙◌, rules}
use Rattle.pooling.specs.Blocks.{direction}
use Rattle.verdict.proofs.Machine.{handed-back}
use Rattle.verdict.proofs.Caps.{cost-below}
use Rattle.verdict.proofs.costs.cost.Goals as goal

pub returns : goal.returns
returns c =
    handed-back c.capped_cost.type_inv
    ∙ c.capped_cost.ensures.below (cost-below c.args.closeness (direction c.args.rising) c.args.h.now c.requires.small c.requires.in_bounds (search rules))
