-- `judge` meets its contract: the grounds of a verdict, then the verdict. Assumes nothing.
use Rattle.std.proofs.Common.{arith, refl, sym, ap, ◌∙◌, ◌≡◌}
use borrow.Author.Tests.{ne_eqb}
use Rattle.std.proofs.lemmas.Result.{err_from_is_err_and}
use mir.Syntax.{w32}
use mir.ValLaws.{to_z-of_z}
use Rattle.grounds.specs.Checks.{ground_number}
use Rattle.grounds.proofs.Checks.{ground-some}
use Rattle.pooling.specs.Blocks.{direction}
use Rattle.verdict.specs.Test.{Closeness, verdict_of}
use Rattle.verdict.proofs.Sound.{verdict-sound}
use Rattle.grounds.specs.Grounds.{verdict_number}
use Rattle.grounds.proofs.Served.{fit-served, verdict-served}
use Rattle.kistrovu.specs.Answers.{verdict_answer}
use Rattle.kistrovu.proofs.calls.judge.Goals as goal

pub returns-in_err-closeness-clause-answer : goal.returns-in_err-closeness-clause-answer
unfolding verdict_answer
returns-in_err-closeness-clause-answer c =
    let p = err_from_is_err_and c.from_residual.result c.from_residual.ensures.1 in
    let why = c.in_err-closeness.field-0.0 in
    let said : ground_number c.in_err-closeness.field-0.0 ≡ verdict_number c.args.closeness c.args.histogram.now = rw (to_z-of_z w32 c.args.closeness c.ranges.closeness) at c.in_err-closeness.ensures.number in
    rw (p.1, p.2) (rw (← said, ne_eqb (ground_number why) 0 (ground-some why)) refl)

pub judge-requires-clause-small : goal.judge-requires-clause-small
judge-requires-clause-small c =
    let z : verdict_number c.args.closeness c.args.histogram.now ≡ 0 = sym (rw (to_z-of_z w32 c.args.closeness c.ranges.closeness) at c.in_ok-closeness.ensures.number) in
    let a = fit-served c.args.histogram.now (verdict-served c.args.closeness c.args.histogram.now z).0 in
    record { bins = omega (arith, a.bins); counts = omega (arith, a.counts) }

pub judge-requires-clause-in_bounds : goal.judge-requires-clause-in_bounds
judge-requires-clause-in_bounds c =
    let z : verdict_number c.args.closeness c.args.histogram.now ≡ 0 = sym (rw (to_z-of_z w32 c.args.closeness c.ranges.closeness) at c.in_ok-closeness.ensures.number) in
    let a = fit-served c.args.histogram.now (verdict-served c.args.closeness c.args.histogram.now z).0 in
    omega (arith, a.some)

pub returns-clause-answer : goal.returns-clause-answer
unfolding verdict_answer
returns-clause-answer c =
    let z : verdict_number c.args.closeness c.args.histogram.now ≡ 0 = sym (rw (to_z-of_z w32 c.args.closeness c.ranges.closeness) at c.in_ok-closeness.ensures.number) in
    let is : c.in_ok-closeness.closeness ≡ c.args.closeness = c.in_ok-closeness.ensures.given ∙ to_z-of_z w32 c.args.closeness c.ranges.closeness in
    let judged : c.judge.result ≡ verdict_of c.args.closeness (direction c.args.rising) c.args.histogram.now =
    c.judge.ensures ∙ ap (λ (e : Closeness). verdict_of e (direction c.args.rising) c.args.histogram.now) is in
    rw (z, judged) refl

pub returns-clause-sound : goal.returns-clause-sound
returns-clause-sound c =
    let z : verdict_number c.args.closeness c.args.histogram.now ≡ 0 = sym (rw (to_z-of_z w32 c.args.closeness c.ranges.closeness) at c.in_ok-closeness.ensures.number) in
    let a = fit-served c.args.histogram.now (verdict-served c.args.closeness c.args.histogram.now z).0 in
    verdict-sound c.args.closeness (direction c.args.rising) c.args.histogram.now (omega (arith, a.bins)) (omega (arith, a.counts))
