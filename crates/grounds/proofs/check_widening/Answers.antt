-- Ground 9 alone. Assumes nothing.
use Rattle.std.proofs.Common.{arith, ◌∙◌, length}
use Rattle.grounds.specs.Grounds.{widen_number}
use Rattle.grounds.proofs.Served.{asked-alike}
use Rattle.grounds.proofs.check_widening.Goals as goal

pub returns : goal.returns
unfolding widen_number
returns c = c.check_labels.ensures ∙ asked-alike _ _ (length c.args.narrow.now) c.args.places (omega arith) (omega arith)
