use Rattle.std.proofs.Common.{◌∙◌, sym}
use Rattle.verdict.specs.Test.{weight}
use Rattle.verdict.proofs.Machine.{handed-back}
use Rattle.verdict.proofs.Terms.{weight-zero, weight-none, weight-all}
use Rattle.verdict.proofs.weights.weight.Goals as goal

pub returns-then-m-k : goal.returns-then-m-k
returns-then-m-k c = sym (weight-zero c.args.n c.args.k c.args.m c.if-m-k.true c.requires.1.partial)

pub returns-then-k-eq0 : goal.returns-then-k-eq0
returns-then-k-eq0 c = handed-back c.one_term.type_inv ∙ c.one_term.ensures ∙ sym (weight-none c.args.n c.args.k c.args.m c.if-k-eq0.true)

pub returns-then-k-n : goal.returns-then-k-n
returns-then-k-n c = handed-back c.one_term-then-k-n.type_inv ∙ c.one_term-then-k-n.ensures ∙ sym (weight-all c.args.n c.args.k c.args.m c.if-k-n.true)

pub returns : goal.returns
unfolding weight
returns c = handed-back c.two_terms.type_inv ∙ c.two_terms.ensures
