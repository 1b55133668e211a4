-- `line_modes` meets its contract: the grounds of modes, then the separators. Assumes nothing.
use Rattle.std.proofs.Common.{sym, ◌∙◌, ◌≡◌, length, refl}
use Rattle.std.proofs.lemmas.Result.{err_from_is_err_and}
use mir.Syntax.{w32}
use mir.ValLaws.{to_z-of_z}
use Rattle.segmentation.specs.Joining.{line_separators}
use Rattle.grounds.specs.Grounds.{modes_number}
use Rattle.grounds.specs.Checks.{ground_number}
use Rattle.kistrovu.specs.Answers.{line_answer, line_list}
use Rattle.kistrovu.proofs.Modes.{accepted, accepted-small, line-finished, list-served, list-refused}
use Rattle.kistrovu.proofs.calls.line_modes.Goals as goal

pub returns-in_err-closeness-clause-answer : goal.returns-in_err-closeness-clause-answer
unfolding line_answer
returns-in_err-closeness-clause-answer c =
    let p = err_from_is_err_and c.from_residual.result c.from_residual.ensures.1 in
    let said : ground_number c.in_err-closeness.field-0.0 ≡ modes_number c.args.closeness c.args.histogram.now (length c.args.separators.now) = rw (to_z-of_z w32 c.args.closeness c.ranges.closeness) at c.in_err-closeness.ensures.number in
    rw (p.1, p.2) (list-refused line_separators c.args.closeness c.args.histogram.now c.args.separators.now _ c.in_err-closeness.field-0.0 said).answer

pub returns-in_err-closeness-clause-list : goal.returns-in_err-closeness-clause-list
unfolding line_list
returns-in_err-closeness-clause-list c =
    let said : ground_number c.in_err-closeness.field-0.0 ≡ modes_number c.args.closeness c.args.histogram.now (length c.args.separators.now) = rw (to_z-of_z w32 c.args.closeness c.ranges.closeness) at c.in_err-closeness.ensures.number in
    (list-refused line_separators c.args.closeness c.args.histogram.now c.args.separators.now _ c.in_err-closeness.field-0.0 said).left

pub line_separators-requires-clause-small : goal.line_separators-requires-clause-small
line_separators-requires-clause-small c =
    let z : modes_number c.args.closeness c.args.histogram.now (length c.args.separators.now) ≡ 0 = sym (rw (to_z-of_z w32 c.args.closeness c.ranges.closeness) at c.in_ok-closeness.ensures.number) in
    accepted-small (accepted c.args.closeness c.args.histogram.now (length c.args.separators.now) z)

pub line_separators-requires-clause-in_bounds : goal.line_separators-requires-clause-in_bounds
line_separators-requires-clause-in_bounds c =
    let z : modes_number c.args.closeness c.args.histogram.now (length c.args.separators.now) ≡ 0 = sym (rw (to_z-of_z w32 c.args.closeness c.ranges.closeness) at c.in_ok-closeness.ensures.number) in
    let a = accepted c.args.closeness c.args.histogram.now (length c.args.separators.now) z in
    (a.histogram.some, a.room)

pub returns-clause-answer : goal.returns-clause-answer
unfolding line_answer
returns-clause-answer c =
    let z : modes_number c.args.closeness c.args.histogram.now (length c.args.separators.now) ≡ 0 = sym (rw (to_z-of_z w32 c.args.closeness c.ranges.closeness) at c.in_ok-closeness.ensures.number) in
    let is : c.in_ok-closeness.closeness ≡ c.args.closeness = c.in_ok-closeness.ensures.given ∙ to_z-of_z w32 c.args.closeness c.ranges.closeness in
    (list-served line_separators c.args.closeness c.args.histogram.now c.args.separators.now _ z _ is _ _ c.line_separators.ensures.0 c.line_separators.ensures.1).answer

pub returns-clause-list : goal.returns-clause-list
unfolding line_list
returns-clause-list c =
    let z : modes_number c.args.closeness c.args.histogram.now (length c.args.separators.now) ≡ 0 = sym (rw (to_z-of_z w32 c.args.closeness c.ranges.closeness) at c.in_ok-closeness.ensures.number) in
    let is : c.in_ok-closeness.closeness ≡ c.args.closeness = c.in_ok-closeness.ensures.given ∙ to_z-of_z w32 c.args.closeness c.ranges.closeness in
    (list-served line_separators c.args.closeness c.args.histogram.now c.args.separators.now _ z _ is _ _ c.line_separators.ensures.0 c.line_separators.ensures.1).left

pub returns-clause-finished : goal.returns-clause-finished
returns-clause-finished c =
    let z : modes_number c.args.closeness c.args.histogram.now (length c.args.separators.now) ≡ 0 = sym (rw (to_z-of_z w32 c.args.closeness c.ranges.closeness) at c.in_ok-closeness.ensures.number) in
    line-finished c.args.closeness c.args.histogram.now c.args.separators.now 0 (sym z) refl
