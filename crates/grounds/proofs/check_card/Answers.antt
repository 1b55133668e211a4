-- The grounds in their sequence. Assumes nothing.
use Rattle.std.proofs.Common.{arith, ℕ, List, refl, sym, ◌∙◌, ◌/◌, ◌%◌, ◌≡◌, ◌≤◌, length, [], ◌∷◌}
use Rattle.verdict.specs.Test.{Closeness}
use Rattle.std.proofs.lemmas.Result.{err_from_is_err_and}
use borrow.Author.Tests.{eq-eqb, ne_eqb, lt-ltb, le-ltb}
use Rattle.palette.specs.Sound.{most_pixels}
use Rattle.grounds.specs.Grounds.{first_ground, bad_closeness, bad_labels, asked_number}
use mir.Syntax.{w32}
use mir.ValLaws.{to_z-of_z}
use Rattle.grounds.specs.Checks.{ground_number}
use Rattle.grounds.proofs.Checks.{ground-some}
use Rattle.grounds.proofs.Served.{grounds-served, grounds-turned-down, refused-alike, served-alike}
use Rattle.grounds.proofs.check_card.Goals as goal
use Rattle.grounds.proofs.check_card.Goals.{then-bytes-eq0-via-then-bytes-eq0, then-bytes-eq0-via-else-bytes-eq0+then-bytes-gt0}

pub returns-then-bytes-eq0-clause-number : goal.returns-then-bytes-eq0-clause-number
unfolding asked_number first_ground
returns-then-bytes-eq0-clause-number c =
    let n = length c.args.pixels.now in
    elim c.then-bytes-eq0.branch [
      | then-bytes-eq0-via-then-bytes-eq0 w ↦ rw (eq-eqb n 0 (omega (arith, w.if-bytes-eq0.true))) refl
      | then-bytes-eq0-via-else-bytes-eq0+then-bytes-gt0 w ↦ rw (ne_eqb n 0 (λ z. omega (arith, z, w.if-bytes-eq0.false)), lt-ltb 0 (n % 3) (omega (arith, w.if-bytes-gt0.true))) refl
    ]

pub returns-then-bytes-gt-MOST_PIXELS-clause-number : goal.returns-then-bytes-gt-MOST_PIXELS-clause-number
unfolding asked_number first_ground most_pixels
returns-then-bytes-gt-MOST_PIXELS-clause-number c =
    let n = length c.args.pixels.now in
    rw (ne_eqb n 0 (λ z. omega (arith, z, c.if-bytes-eq0.false)), le-ltb 0 (n % 3) (omega (arith, c.if-bytes-gt0.false)), lt-ltb 65536 (n / 3) (omega (arith, c.if-bytes-gt-MOST_PIXELS.true))) refl

-- the grounds that are left once neither ground 4 nor ground 5 holds
asked-left : (e : Closeness) (bytes : List ℕ) (places : ℕ) → (length bytes ≡ 0 → ⊥) → length bytes % 3 ≤ 0 → length bytes / 3 ≤ 65536
    → first_ground (bad_closeness e ∷ bad_labels (length bytes / 3) places ∷ []) ≡ asked_number e bytes places
unfolding asked_number first_ground most_pixels
asked-left e bytes places some whole few = rw (ne_eqb (length bytes) 0 some, le-ltb 0 (length bytes % 3) whole, le-ltb 65536 (length bytes / 3) few) refl

pub returns-in_err-checked-clause-number : goal.returns-in_err-checked-clause-number
returns-in_err-checked-clause-number c =
    let p = err_from_is_err_and c.from_residual.result c.from_residual.ensures.1 in
    let said : ground_number c.in_err-checked.field-0.0 ≡ first_ground (bad_closeness c.args.closeness ∷ []) = rw (to_z-of_z w32 c.args.closeness c.ranges.closeness) at c.in_err-checked.ensures.number in
    rw (p.1, p.2)
    (said
    ∙ sym (grounds-turned-down (bad_closeness c.args.closeness ∷ []) (bad_labels (length c.args.pixels.now / 3) c.args.places ∷ []) (λ z. ground-some c.in_err-checked.field-0.0 (said ∙ z)))
    ∙ asked-left c.args.closeness c.args.pixels.now c.args.places (λ z. omega (arith, z, c.if-bytes-eq0.false)) (omega (arith, c.if-bytes-gt0.false)) (omega (arith, c.if-bytes-gt-MOST_PIXELS.false)))

-- those grounds, where neither ground 4 nor ground 5 nor ground 8 holds
labels_left : (e : Closeness) (bytes : List ℕ) (places : ℕ) → (length bytes ≡ 0 → ⊥) → length bytes % 3 ≤ 0 → length bytes / 3 ≤ 65536 → first_ground (bad_closeness e ∷ []) ≡ 0
    → first_ground (bad_labels (length bytes / 3) places ∷ []) ≡ asked_number e bytes places
labels_left e bytes places some whole few close =
    sym (grounds-served (bad_closeness e ∷ []) (bad_labels (length bytes / 3) places ∷ []) (omega arith, tt) close) ∙ asked-left e bytes places some whole few

pub returns-in_err-check_labels-clause-number : goal.returns-in_err-check_labels-clause-number
returns-in_err-check_labels-clause-number c =
    let p = err_from_is_err_and c.from_residual-in_err-check_labels.result c.from_residual-in_err-check_labels.ensures.1 in
    let said : 0 ≡ first_ground (bad_closeness c.args.closeness ∷ []) = rw (to_z-of_z w32 c.args.closeness c.ranges.closeness) at c.in_ok-checked.ensures.number in
    rw (p.1, p.2)
    (refused-alike _ _ (length c.args.pixels.now / 3) c.args.places _ c.in_err-check_labels.ensures (ground-some c.in_err-check_labels.field-0.0) (λ same. omega (arith, same))
    ∙ labels_left c.args.closeness c.args.pixels.now c.args.places (λ z. omega (arith, z, c.if-bytes-eq0.false)) (omega (arith, c.if-bytes-gt0.false)) (omega (arith, c.if-bytes-gt-MOST_PIXELS.false)) (sym said))

pub returns-clause-number : goal.returns-clause-number
returns-clause-number c =
    let said : 0 ≡ first_ground (bad_closeness c.args.closeness ∷ []) = rw (to_z-of_z w32 c.args.closeness c.ranges.closeness) at c.in_ok-checked.ensures.number in
    served-alike _ _ (length c.args.pixels.now / 3) c.args.places c.in_ok-check_labels.ensures (λ same. omega (arith, same))
    ∙ labels_left c.args.closeness c.args.pixels.now c.args.places (λ z. omega (arith, z, c.if-bytes-eq0.false)) (omega (arith, c.if-bytes-gt0.false)) (omega (arith, c.if-bytes-gt-MOST_PIXELS.false)) (sym said)
