-- The grounds of modes, for as many places as the log has. Assumes nothing.
use Rattle.std.proofs.Common.{sym, ◌∙◌}
use mir.Syntax.{w32}
use mir.ValLaws.{to_z-of_z}
use Rattle.grounds.proofs.Served.{log-is-modes}
use Rattle.grounds.proofs.check_log.Goals as goal

pub returns-clause-number : goal.returns-clause-number
returns-clause-number c = (rw (to_z-of_z w32 c.args.closeness c.ranges.closeness) at c.check_modes.ensures.number) ∙ sym (log-is-modes c.args.closeness c.args.h.now c.args.numbers)
