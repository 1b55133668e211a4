use Rattle.logarithm.specs.Sheet.{odd_part}
use Rattle.logarithm.proofs.Odd.of.Goals as goal

pub returns : goal.returns
unfolding odd_part
returns c = rw c.from.ensures
