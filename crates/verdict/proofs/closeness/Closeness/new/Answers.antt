-- The check finds this alone; it stands here so that a wrong engine is refused by the name of this goal, which the prover's note on it is too long to show. The two
-- limits are opened so that an engine with another closeness between them is refused where that is handed back.
use Rattle.std.proofs.Common.{rules}
use Rattle.verdict.specs.Test.{least_closeness, most_closeness}
use Rattle.verdict.proofs.closeness.Closeness.new.Goals as goal

pub invariant_of-result : goal.invariant_of-result
unfolding least_closeness most_closeness
invariant_of-result c = search rules
