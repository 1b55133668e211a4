-- Each clause is proved on its own: the tables in proofs/Tables, the example in proofs/Example. Assumes nothing.
use Rattle.samples.proofs.Tables.{starred-hold, guards-hold, rings-hold, joins-round-hold, logs-hold, widenings-hold}
use Rattle.samples.proofs.Example.{prints-its-card}
use Rattle.samples.proofs.sample_tables.Goals as goal

pub returns-clause-starred : goal.returns-clause-starred
returns-clause-starred c = starred-hold

pub returns-clause-guards : goal.returns-clause-guards
returns-clause-guards c = guards-hold

pub returns-clause-rings : goal.returns-clause-rings
returns-clause-rings c = rings-hold

pub returns-clause-joins_round : goal.returns-clause-joins_round
returns-clause-joins_round c = joins-round-hold

pub returns-clause-logs : goal.returns-clause-logs
returns-clause-logs c = logs-hold

pub returns-clause-widenings : goal.returns-clause-widenings
returns-clause-widenings c = widenings-hold

pub returns-clause-example : goal.returns-clause-example
returns-clause-example c = prints-its-card
