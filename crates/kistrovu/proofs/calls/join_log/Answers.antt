-- `join_log` meets its contract: the grounds of a log, then the log. Assumes nothing.
use Rattle.std.proofs.Common.{sym, ◌∙◌, ◌≡◌, length}
use Rattle.std.proofs.lemmas.Result.{err_from_is_err_and}
use mir.Syntax.{w32}
use mir.ValLaws.{to_z-of_z}
use Rattle.grounds.specs.Checks.{ground_number}
use Rattle.grounds.proofs.Checks.{ground-some}
use Rattle.joinlog.proofs.Always.{log-always-sound}
use Rattle.grounds.specs.Grounds.{log_number}
use Rattle.kistrovu.proofs.Modes.{accepted-small}
use Rattle.kistrovu.proofs.Replays.{log-accepted, log-room, log-served, log-turned-down}
use Rattle.kistrovu.proofs.calls.join_log.Goals as goal

pub returns-in_err-closeness-clause-answer : goal.returns-in_err-closeness-clause-answer
returns-in_err-closeness-clause-answer c =
    let p = err_from_is_err_and c.from_residual.result c.from_residual.ensures.1 in
    let said : ground_number c.in_err-closeness.field-0.0 ≡ log_number c.args.closeness c.args.histogram.now (length c.args.log.now) = rw (to_z-of_z w32 c.args.closeness c.ranges.closeness) at c.in_err-closeness.ensures.number in
    rw (p.1, p.2) (log-turned-down c.args.closeness c.args.histogram.now c.args.log.now _ said (ground-some c.in_err-closeness.field-0.0)).answer

pub returns-in_err-closeness-clause-list : goal.returns-in_err-closeness-clause-list
returns-in_err-closeness-clause-list c =
    let said : ground_number c.in_err-closeness.field-0.0 ≡ log_number c.args.closeness c.args.histogram.now (length c.args.log.now) = rw (to_z-of_z w32 c.args.closeness c.ranges.closeness) at c.in_err-closeness.ensures.number in
    (log-turned-down c.args.closeness c.args.histogram.now c.args.log.now _ said (ground-some c.in_err-closeness.field-0.0)).left

pub line_log-requires-clause-small : goal.line_log-requires-clause-small
line_log-requires-clause-small c =
    let z : log_number c.args.closeness c.args.histogram.now (length c.args.log.now) ≡ 0 = sym (rw (to_z-of_z w32 c.args.closeness c.ranges.closeness) at c.in_ok-closeness.ensures.number) in
    accepted-small (log-accepted c.args.closeness c.args.histogram.now (length c.args.log.now) z)

pub line_log-requires-clause-in_bounds : goal.line_log-requires-clause-in_bounds
line_log-requires-clause-in_bounds c =
    let z : log_number c.args.closeness c.args.histogram.now (length c.args.log.now) ≡ 0 = sym (rw (to_z-of_z w32 c.args.closeness c.ranges.closeness) at c.in_ok-closeness.ensures.number) in
    ((log-accepted c.args.closeness c.args.histogram.now (length c.args.log.now) z).histogram.some, log-room c.args.closeness c.args.histogram.now (length c.args.log.now) z)

pub returns-clause-answer : goal.returns-clause-answer
returns-clause-answer c =
    let z : log_number c.args.closeness c.args.histogram.now (length c.args.log.now) ≡ 0 = sym (rw (to_z-of_z w32 c.args.closeness c.ranges.closeness) at c.in_ok-closeness.ensures.number) in
    let is : c.in_ok-closeness.closeness ≡ c.args.closeness = c.in_ok-closeness.ensures.given ∙ to_z-of_z w32 c.args.closeness c.ranges.closeness in
    (log-served c.args.closeness c.args.histogram.now c.args.log.now z _ is _ _ c.line_log.ensures.0 c.line_log.ensures.1).answer

pub returns-clause-list : goal.returns-clause-list
returns-clause-list c =
    let z : log_number c.args.closeness c.args.histogram.now (length c.args.log.now) ≡ 0 = sym (rw (to_z-of_z w32 c.args.closeness c.ranges.closeness) at c.in_ok-closeness.ensures.number) in
    let is : c.in_ok-closeness.closeness ≡ c.args.closeness = c.in_ok-closeness.ensures.given ∙ to_z-of_z w32 c.args.closeness c.ranges.closeness in
    (log-served c.args.closeness c.args.histogram.now c.args.log.now z _ is _ _ c.line_log.ensures.0 c.line_log.ensures.1).left

pub returns-clause-sound : goal.returns-clause-sound
returns-clause-sound c = log-always-sound c.args.closeness c.args.histogram.now
