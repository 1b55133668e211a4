-- By the two cases of its test.
use borrow.Author.Tests.{le-leb, lt-leb}
use Rattle.logarithm.specs.Worker.{round}
use Rattle.logarithm.proofs.Logarithm.round.Goals as goal

pub returns-then-square-ge-LEAST_OF_64_BITS : goal.returns-then-square-ge-LEAST_OF_64_BITS
unfolding round
returns-then-square-ge-LEAST_OF_64_BITS c = simp (le-leb _ _ c.if-square-ge-LEAST_OF_64_BITS.true)

pub returns-else-square-ge-LEAST_OF_64_BITS : goal.returns-else-square-ge-LEAST_OF_64_BITS
unfolding round
returns-else-square-ge-LEAST_OF_64_BITS c = simp (lt-leb _ _ c.if-square-ge-LEAST_OF_64_BITS.false)
