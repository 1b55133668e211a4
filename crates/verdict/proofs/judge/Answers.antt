-- The cost and the rejection are those of the definition.
use Rattle.std.proofs.Common.{refl, sym}
use Rattle.verdict.specs.Test.{rejected, verdict_of}
use Rattle.verdict.proofs.Machine.{handed-back}
use Rattle.verdict.proofs.judge.Goals as goal

pub returns-then-step_against : goal.returns-then-step_against
unfolding verdict_of rejected
returns-then-step_against c =
    rw (handed-back c.cost-found.type_inv, c.cost-found.ensures, sym c.step_against.ensures, c.if-step_against.true) refl

pub returns-else-step_against : goal.returns-else-step_against
unfolding verdict_of rejected
returns-else-step_against c =
    rw (handed-back c.cost-found.type_inv, c.cost-found.ensures, sym c.step_against.ensures, c.if-step_against.false) refl
