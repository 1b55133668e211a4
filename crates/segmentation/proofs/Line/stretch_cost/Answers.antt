-- The stretch is a part of the line. Assumes nothing.
use Rattle.std.proofs.Common.{add-one}
use mir.Syntax.{w64}
use mir.ValLaws.{to_z-of_z}
use Rattle.lists.specs.Lists.{part}
use Rattle.verdict.proofs.Machine.{handed-back}
use Rattle.segmentation.proofs.Line.stretch_cost.Goals as goal

pub capped_cost-requires-clause-small : goal.capped_cost-requires-clause-small
unfolding part
capped_cost-requires-clause-small c = rw add-one c.requires.within.small

pub returns : goal.returns
unfolding part
returns c = rw (handed-back c.capped_cost.type_inv) (rw (to_z-of_z w64 c.args.cap c.ranges.cap, add-one) at c.capped_cost.ensures)
