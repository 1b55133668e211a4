-- `replay` meets its contract: the grounds of modes, then the log that is followed. Assumes nothing.
use Rattle.std.proofs.Common.{sym, ◌∙◌, ◌≡◌, length}
use Rattle.std.proofs.lemmas.Result.{err_from_is_err_and}
use mir.Syntax.{w32}
use mir.ValLaws.{to_z-of_z}
use Rattle.grounds.specs.Checks.{ground_number}
use Rattle.grounds.proofs.Checks.{ground-some}
use Rattle.segmentation.specs.Joining.{line_separators}
use Rattle.grounds.specs.Grounds.{modes_number}
use Rattle.grounds.proofs.Served.{replay-turned-down}
use Rattle.kistrovu.specs.Answers.{replay_answer, replay_list}
use Rattle.kistrovu.proofs.Modes.{accepted, accepted-small, list-refused}
use Rattle.kistrovu.proofs.Replays.{replay-made}
use Rattle.kistrovu.proofs.calls.replay.Goals as goal

pub returns-in_err-closeness-clause-answer : goal.returns-in_err-closeness-clause-answer
unfolding replay_answer
returns-in_err-closeness-clause-answer c =
    let p = err_from_is_err_and c.from_residual.result c.from_residual.ensures.1 in
    let said : ground_number c.in_err-closeness.field-0.0 ≡ modes_number c.args.closeness c.args.histogram.now (length c.args.separators.now) = rw (to_z-of_z w32 c.args.closeness c.ranges.closeness) at c.in_err-closeness.ensures.number in
    let same = said ∙ sym (replay-turned-down c.args.closeness c.args.histogram.now c.args.log.now (length c.args.separators.now) (λ z. ground-some c.in_err-closeness.field-0.0 (said ∙ z))) in
    rw (p.1, p.2) (list-refused line_separators c.args.closeness c.args.histogram.now c.args.separators.now _ c.in_err-closeness.field-0.0 same).answer

pub returns-in_err-closeness-clause-list : goal.returns-in_err-closeness-clause-list
unfolding replay_list
returns-in_err-closeness-clause-list c =
    let said : ground_number c.in_err-closeness.field-0.0 ≡ modes_number c.args.closeness c.args.histogram.now (length c.args.separators.now) = rw (to_z-of_z w32 c.args.closeness c.ranges.closeness) at c.in_err-closeness.ensures.number in
    let same = said ∙ sym (replay-turned-down c.args.closeness c.args.histogram.now c.args.log.now (length c.args.separators.now) (λ z. ground-some c.in_err-closeness.field-0.0 (said ∙ z))) in
    (list-refused line_separators c.args.closeness c.args.histogram.now c.args.separators.now _ c.in_err-closeness.field-0.0 same).left

pub replay-requires-clause-small : goal.replay-requires-clause-small
replay-requires-clause-small c =
    let z : modes_number c.args.closeness c.args.histogram.now (length c.args.separators.now) ≡ 0 = sym (rw (to_z-of_z w32 c.args.closeness c.ranges.closeness) at c.in_ok-closeness.ensures.number) in
    accepted-small (accepted c.args.closeness c.args.histogram.now (length c.args.separators.now) z)

pub replay-requires-clause-in_bounds : goal.replay-requires-clause-in_bounds
replay-requires-clause-in_bounds c =
    let z : modes_number c.args.closeness c.args.histogram.now (length c.args.separators.now) ≡ 0 = sym (rw (to_z-of_z w32 c.args.closeness c.ranges.closeness) at c.in_ok-closeness.ensures.number) in
    let a = accepted c.args.closeness c.args.histogram.now (length c.args.separators.now) z in
    (a.histogram.some, a.room)

pub returns-clause-answer : goal.returns-clause-answer
returns-clause-answer c =
    let z : modes_number c.args.closeness c.args.histogram.now (length c.args.separators.now) ≡ 0 = sym (rw (to_z-of_z w32 c.args.closeness c.ranges.closeness) at c.in_ok-closeness.ensures.number) in
    let is : c.in_ok-closeness.closeness ≡ c.args.closeness = c.in_ok-closeness.ensures.given ∙ to_z-of_z w32 c.args.closeness c.ranges.closeness in
    rw c.ok_or.ensures.value (replay-made c.args.closeness c.args.histogram.now c.args.log.now c.args.separators.now z _ is _ _ c.replay.ensures.followed c.replay.ensures.list).answer

pub returns-clause-list : goal.returns-clause-list
returns-clause-list c =
    let z : modes_number c.args.closeness c.args.histogram.now (length c.args.separators.now) ≡ 0 = sym (rw (to_z-of_z w32 c.args.closeness c.ranges.closeness) at c.in_ok-closeness.ensures.number) in
    let is : c.in_ok-closeness.closeness ≡ c.args.closeness = c.in_ok-closeness.ensures.given ∙ to_z-of_z w32 c.args.closeness c.ranges.closeness in
    (replay-made c.args.closeness c.args.histogram.now c.args.log.now c.args.separators.now z _ is _ _ c.replay.ensures.followed c.replay.ensures.list).left

pub returns-clause-replayed : goal.returns-clause-replayed
returns-clause-replayed c =
    let z : modes_number c.args.closeness c.args.histogram.now (length c.args.separators.now) ≡ 0 = sym (rw (to_z-of_z w32 c.args.closeness c.ranges.closeness) at c.in_ok-closeness.ensures.number) in
    let is : c.in_ok-closeness.closeness ≡ c.args.closeness = c.in_ok-closeness.ensures.given ∙ to_z-of_z w32 c.args.closeness c.ranges.closeness in
    rw c.ok_or.ensures.value (replay-made c.args.closeness c.args.histogram.now c.args.log.now c.args.separators.now z _ is _ _ c.replay.ensures.followed c.replay.ensures.list).replayed
