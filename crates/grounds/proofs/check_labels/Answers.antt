-- Ground 9. Assumes nothing.
use Rattle.std.proofs.Common.{arith, sym}
use Rattle.grounds.proofs.Served.{labels-alike, labels-unlike}
use Rattle.grounds.proofs.check_labels.Goals as goal

pub returns-then-places-labels : goal.returns-then-places-labels
returns-then-places-labels c = sym (labels-unlike c.args.labels c.args.places (λ same. omega (arith, same, c.if-places-labels.true)))

pub returns : goal.returns
returns c = sym (labels-alike c.args.labels c.args.places (omega (arith, c.if-places-labels.false)))
