-- `card` meets its contract: the grounds of a card, then the entries and the labels. Assumes nothing.
use Rattle.std.proofs.Common.{arith, ℕ, refl, sym, ap, ◌∙◌, ◌≡◌, ◌≤◌, ◌<◌, length}
use Rattle.std.proofs.lemmas.Result.{err_from_is_err_and}
use mir.Syntax.{w32}
use mir.ValLaws.{to_z-of_z}
use Rattle.grounds.specs.Checks.{ground_number}
use Rattle.grounds.proofs.Checks.{ground-some}
use Rattle.lists.specs.Lists.{padded}
use Rattle.verdict.specs.Test.{Closeness}
use Rattle.palette.specs.Cards.{pixels_of, entries, most_entries, no_entry}
use Rattle.making.specs.declared.CardEntries.{CardEntries}
use Rattle.making.specs.Making.{card_entries, labels_left}
use Rattle.grounds.specs.Grounds.{asked_number, card_number}
use Rattle.kistrovu.proofs.Cards.{made, card-turned-down, asked-none, card-refused, labels-as-lent, card-served, labels-served, many-number, few-number, few-entries, many-left, few-left, total-is, card-sound, handed-sound}
use Rattle.kistrovu.proofs.calls.card.Goals as goal

pub returns-in_err-closeness-clause-answer : goal.returns-in_err-closeness-clause-answer
returns-in_err-closeness-clause-answer c =
    let p = err_from_is_err_and c.from_residual.result c.from_residual.ensures.1 in
    let said : ground_number c.in_err-closeness.field-0.0 ≡ asked_number c.args.closeness c.args.pixels.now (length c.args.labels.now) = rw (to_z-of_z w32 c.args.closeness c.ranges.closeness) at c.in_err-closeness.ensures.number in
    let number : ground_number c.in_err-closeness.field-0.0 ≡ card_number c.args.closeness c.args.pixels.now (length c.args.labels.now) =
    said ∙ sym (card-turned-down c.args.closeness c.args.pixels.now (length c.args.labels.now) (λ z. ground-some c.in_err-closeness.field-0.0 (said ∙ z))) in
    rw (p.1, p.2) (card-refused c.args.closeness c.args.pixels.now c.args.labels.now _ number (ground-some c.in_err-closeness.field-0.0))

pub returns-in_err-closeness-clause-labels : goal.returns-in_err-closeness-clause-labels
returns-in_err-closeness-clause-labels c =
    let said : ground_number c.in_err-closeness.field-0.0 ≡ asked_number c.args.closeness c.args.pixels.now (length c.args.labels.now) = rw (to_z-of_z w32 c.args.closeness c.ranges.closeness) at c.in_err-closeness.ensures.number in
    let number : ground_number c.in_err-closeness.field-0.0 ≡ card_number c.args.closeness c.args.pixels.now (length c.args.labels.now) =
    said ∙ sym (card-turned-down c.args.closeness c.args.pixels.now (length c.args.labels.now) (λ z. ground-some c.in_err-closeness.field-0.0 (said ∙ z))) in
    labels-as-lent c.args.closeness c.args.pixels.now c.args.labels.now _ number (ground-some c.in_err-closeness.field-0.0)

pub make_card-made-requires : goal.make_card-made-requires
make_card-made-requires c =
    let z : asked_number c.args.closeness c.args.pixels.now (length c.args.labels.now) ≡ 0 = sym (rw (to_z-of_z w32 c.args.closeness c.ranges.closeness) at c.in_ok-closeness.ensures.number) in
    let q = asked-none c.args.closeness c.args.pixels.now (length c.args.labels.now) z in
    (q.threes, q.few)

pub returns-then-made-gt-MOST_ENTRIES-clause-answer : goal.returns-then-made-gt-MOST_ENTRIES-clause-answer
unfolding most_entries
returns-then-made-gt-MOST_ENTRIES-clause-answer c =
    let z : asked_number c.args.closeness c.args.pixels.now (length c.args.labels.now) ≡ 0 = sym (rw (to_z-of_z w32 c.args.closeness c.ranges.closeness) at c.in_ok-closeness.ensures.number) in
    let is : c.in_ok-closeness.closeness ≡ c.args.closeness = c.in_ok-closeness.ensures.given ∙ to_z-of_z w32 c.args.closeness c.ranges.closeness in
    let ps = pixels_of c.args.pixels.now in
    let found : c.make_card-made.result ≡ card_entries c.args.closeness ps = c.make_card-made.ensures.0 ∙ ap (λ (e : Closeness). card_entries e ps) is in
    let total : c.make_card-made.result.total ≡ length (entries c.args.closeness ps) = ap (λ (x : CardEntries). x.total) found ∙ total-is c.args.closeness ps in
    let many : most_entries < c.make_card-made.result.total = omega (arith, c.if-made-gt-MOST_ENTRIES.true) in
    let number = many-number c.args.closeness c.args.pixels.now (length c.args.labels.now) c.make_card-made.result.total z total many in
    card-refused c.args.closeness c.args.pixels.now c.args.labels.now 11 number (λ y. omega (arith, y))

pub returns-then-made-gt-MOST_ENTRIES-clause-labels : goal.returns-then-made-gt-MOST_ENTRIES-clause-labels
unfolding most_entries
returns-then-made-gt-MOST_ENTRIES-clause-labels c =
    let z : asked_number c.args.closeness c.args.pixels.now (length c.args.labels.now) ≡ 0 = sym (rw (to_z-of_z w32 c.args.closeness c.ranges.closeness) at c.in_ok-closeness.ensures.number) in
    let is : c.in_ok-closeness.closeness ≡ c.args.closeness = c.in_ok-closeness.ensures.given ∙ to_z-of_z w32 c.args.closeness c.ranges.closeness in
    let ps = pixels_of c.args.pixels.now in
    let found : c.make_card-made.result ≡ card_entries c.args.closeness ps = c.make_card-made.ensures.0 ∙ ap (λ (e : Closeness). card_entries e ps) is in
    let left : c.make_card-made.new.labels ≡ labels_left c.args.closeness ps c.args.labels.now = c.make_card-made.ensures.1 ∙ ap (λ (e : Closeness). labels_left e ps c.args.labels.now) is in
    let total : c.make_card-made.result.total ≡ length (entries c.args.closeness ps) = ap (λ (x : CardEntries). x.total) found ∙ total-is c.args.closeness ps in
    let many : most_entries < c.make_card-made.result.total = omega (arith, c.if-made-gt-MOST_ENTRIES.true) in
    let number = many-number c.args.closeness c.args.pixels.now (length c.args.labels.now) c.make_card-made.result.total z total many in
    left ∙ many-left c.args.closeness c.args.pixels.now (length c.args.labels.now) c.make_card-made.result.total z total many c.args.labels.now ∙ labels-as-lent c.args.closeness c.args.pixels.now c.args.labels.now 11 number (λ y. omega (arith, y))

pub returns-clause-answer : goal.returns-clause-answer
unfolding most_entries
returns-clause-answer c =
    let z : asked_number c.args.closeness c.args.pixels.now (length c.args.labels.now) ≡ 0 = sym (rw (to_z-of_z w32 c.args.closeness c.ranges.closeness) at c.in_ok-closeness.ensures.number) in
    let is : c.in_ok-closeness.closeness ≡ c.args.closeness = c.in_ok-closeness.ensures.given ∙ to_z-of_z w32 c.args.closeness c.ranges.closeness in
    let ps = pixels_of c.args.pixels.now in
    let found : c.make_card-made.result ≡ card_entries c.args.closeness ps = c.make_card-made.ensures.0 ∙ ap (λ (e : Closeness). card_entries e ps) is in
    let total : c.make_card-made.result.total ≡ length (entries c.args.closeness ps) = ap (λ (x : CardEntries). x.total) found ∙ total-is c.args.closeness ps in
    let few : c.make_card-made.result.total ≤ most_entries = omega (arith, c.if-made-gt-MOST_ENTRIES.false) in
    let number = few-number c.args.closeness c.args.pixels.now (length c.args.labels.now) c.make_card-made.result.total z total few in
    let es = ap (λ (x : CardEntries). x.entries) found ∙ few-entries c.args.closeness c.args.pixels.now (length c.args.labels.now) c.make_card-made.result.total z total few in
    ap (made 0 c.make_card-made.result.total) es ∙ ap (λ (k : ℕ). made 0 k (padded most_entries no_entry (entries c.args.closeness ps))) total ∙ card-served c.args.closeness c.args.pixels.now c.args.labels.now 0 number refl

pub returns-clause-labels : goal.returns-clause-labels
unfolding most_entries
returns-clause-labels c =
    let z : asked_number c.args.closeness c.args.pixels.now (length c.args.labels.now) ≡ 0 = sym (rw (to_z-of_z w32 c.args.closeness c.ranges.closeness) at c.in_ok-closeness.ensures.number) in
    let is : c.in_ok-closeness.closeness ≡ c.args.closeness = c.in_ok-closeness.ensures.given ∙ to_z-of_z w32 c.args.closeness c.ranges.closeness in
    let ps = pixels_of c.args.pixels.now in
    let found : c.make_card-made.result ≡ card_entries c.args.closeness ps = c.make_card-made.ensures.0 ∙ ap (λ (e : Closeness). card_entries e ps) is in
    let left : c.make_card-made.new.labels ≡ labels_left c.args.closeness ps c.args.labels.now = c.make_card-made.ensures.1 ∙ ap (λ (e : Closeness). labels_left e ps c.args.labels.now) is in
    let total : c.make_card-made.result.total ≡ length (entries c.args.closeness ps) = ap (λ (x : CardEntries). x.total) found ∙ total-is c.args.closeness ps in
    let few : c.make_card-made.result.total ≤ most_entries = omega (arith, c.if-made-gt-MOST_ENTRIES.false) in
    let number = few-number c.args.closeness c.args.pixels.now (length c.args.labels.now) c.make_card-made.result.total z total few in
    let ls = left ∙ few-left c.args.closeness c.args.pixels.now (length c.args.labels.now) c.make_card-made.result.total z total few c.args.labels.now in
    ls ∙ labels-served c.args.closeness c.args.pixels.now c.args.labels.now 0 number refl

pub returns-clause-sound : goal.returns-clause-sound
unfolding most_entries
returns-clause-sound c =
    let z : asked_number c.args.closeness c.args.pixels.now (length c.args.labels.now) ≡ 0 = sym (rw (to_z-of_z w32 c.args.closeness c.ranges.closeness) at c.in_ok-closeness.ensures.number) in
    let is : c.in_ok-closeness.closeness ≡ c.args.closeness = c.in_ok-closeness.ensures.given ∙ to_z-of_z w32 c.args.closeness c.ranges.closeness in
    let ps = pixels_of c.args.pixels.now in
    let found : c.make_card-made.result ≡ card_entries c.args.closeness ps = c.make_card-made.ensures.0 ∙ ap (λ (e : Closeness). card_entries e ps) is in
    let left : c.make_card-made.new.labels ≡ labels_left c.args.closeness ps c.args.labels.now = c.make_card-made.ensures.1 ∙ ap (λ (e : Closeness). labels_left e ps c.args.labels.now) is in
    let total : c.make_card-made.result.total ≡ length (entries c.args.closeness ps) = ap (λ (x : CardEntries). x.total) found ∙ total-is c.args.closeness ps in
    let few : c.make_card-made.result.total ≤ most_entries = omega (arith, c.if-made-gt-MOST_ENTRIES.false) in
    let es = ap (λ (x : CardEntries). x.entries) found ∙ few-entries c.args.closeness c.args.pixels.now (length c.args.labels.now) c.make_card-made.result.total z total few in
    let ls = left ∙ few-left c.args.closeness c.args.pixels.now (length c.args.labels.now) c.make_card-made.result.total z total few c.args.labels.now in
    handed-sound c.args.closeness c.args.pixels.now _ _ _ total es ls (card-sound c.args.closeness c.args.pixels.now (length c.args.labels.now) (λ j. let known = c.type_inv.pixels j in omega arith) (asked-none c.args.closeness c.args.pixels.now (length c.args.labels.now) z))
