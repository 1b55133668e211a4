-- `widen` meets its contract. Assumes nothing.
use Rattle.std.proofs.Common.{arith, sym, ◌∙◌, refl, length}
use Rattle.std.proofs.lemmas.Result.{err_from_is_err_and}
use Rattle.grounds.proofs.Checks.{ground-some}
use Rattle.grounds.proofs.Served.{widen-served, widen-refused-alike, widen-served-alike}
use Rattle.kistrovu.proofs.Cards.{widened-served, widened-as-lent}
use Rattle.kistrovu.proofs.calls.widen.Goals as goal

pub returns-in_err-check_widening-clause-number : goal.returns-in_err-check_widening-clause-number
returns-in_err-check_widening-clause-number c =
    let p = err_from_is_err_and c.from_residual.result c.from_residual.ensures.1 in
    let some = ground-some c.in_err-check_widening.field-0.0 in
    rw (p.1, p.2) (widen-refused-alike _ _ (length c.args.labels.now) _ c.in_err-check_widening.ensures some (λ same. omega (arith, same)))

pub returns-in_err-check_widening-clause-labels : goal.returns-in_err-check_widening-clause-labels
returns-in_err-check_widening-clause-labels c =
    let some = ground-some c.in_err-check_widening.field-0.0 in
    let number = widen-refused-alike _ _ (length c.args.labels.now) _ c.in_err-check_widening.ensures some (λ same. omega (arith, same)) in
    widened-as-lent _ _ _ number some

-- the list is as long as the labels that are widened
pub widen_labels-requires : goal.widen_labels-requires
widen_labels-requires c = omega (arith, widen-served _ _ (sym c.in_ok-check_widening.ensures))

pub returns-clause-number : goal.returns-clause-number
returns-clause-number c = widen-served-alike _ _ (length c.args.labels.now) c.in_ok-check_widening.ensures (λ same. omega (arith, same))

pub returns-clause-labels : goal.returns-clause-labels
returns-clause-labels c =
    let number = widen-served-alike _ _ (length c.args.labels.now) c.in_ok-check_widening.ensures (λ same. omega (arith, same)) in
    c.widen_labels.ensures ∙ widened-served _ _ _ number refl
