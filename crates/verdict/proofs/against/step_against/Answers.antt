-- A step that the test finds is one of the stretch, and without one the stretch is in order.
use Rattle.std.proofs.Common.{arith, sym, ◌∙◌}
use Rattle.pooling.specs.Blocks.{direction}
use Rattle.verdict.proofs.Ordered.{step_kept, step-found, monotone-none}
use Rattle.verdict.proofs.against.step_against.Goals as goal

pub returns-then-against : goal.returns-then-against
returns-then-against c = sym (step-found (direction c.args.rising) c.args.h.now c.loop-i.i (omega arith) (omega arith) (sym c.against.ensures ∙ c.if-against.true))

pub loop-i-preserved : goal.loop-i-preserved
loop-i-preserved c = step_kept (direction c.args.rising) c.args.h.now c.loop-i.i (omega arith) (sym c.against.ensures ∙ c.if-against.false) c.loop-i.invariant

pub returns : goal.returns
returns c = sym (monotone-none (direction c.args.rising) c.args.h.now (λ k m. c.loop-i.invariant k (omega arith)))
