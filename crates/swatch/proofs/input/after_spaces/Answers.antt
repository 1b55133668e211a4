-- A space is passed, and the rest begins with none. Assumes nothing.
use Rattle.std.proofs.Common.{arith, sym, ◌∙◌}
use Rattle.swatch.proofs.Fields.{spaces-none, spaces-end, spaces-more}
use Rattle.swatch.proofs.input.after_spaces.Goals as goal

pub loop-rest-preserved : goal.loop-rest-preserved
loop-rest-preserved c = spaces-more c.loop-rest.rest.now _ (omega arith) (omega arith) (omega arith) ∙ c.loop-rest.invariant

pub returns-in_default : goal.returns-in_default
returns-in_default c = sym (spaces-none c.loop-rest.rest.now (omega arith)) ∙ c.loop-rest.invariant

pub returns-in_default-2 : goal.returns-in_default-2
returns-in_default-2 c = sym (spaces-end c.loop-rest.rest.now (omega arith) (λ e. omega arith)) ∙ c.loop-rest.invariant
