-- `kistrovu_print_card` keeps its promise. Assumes nothing.
use Rattle.std.proofs.Common.{arith, ℕ, List, ◌≡◌, refl, sym, ◌∙◌}
use Rattle.lists.proofs.Buffers.{over-padded}
use Rattle.palette.specs.Cards.{most_entries}
use Rattle.swatch.specs.Output.{printed_most}
use Rattle.kistrovu.specs.declared.Printed.{Printed}
use Rattle.kistrovu.specs.Answers.{printed, printed_answer}
use Rattle.kistrovu.proofs.kistrovu_print_card.Goals as goal

pub print-requires : goal.print-requires
unfolding printed_most most_entries
print-requires c = omega arith

-- an answer is its three parts
parts-alike : {n n' l l' : ℕ} {b b' : List ℕ} → n ≡ n' → l ≡ l' → b ≡ b' → ◌≡◌ {A = Printed} (record { number = n; len = l; bytes = b }) (record { number = n'; len = l'; bytes = b' })
parts-alike e f g = rw (e, f, g) refl

pub returns : goal.returns
unfolding printed_answer printed_most most_entries
returns c =
    let p = c.print.ensures in
    let a = c.answered-number.ensures in
    let bytes = p.0.written ∙ over-padded printed_most 0 (printed c.args.text.now) in
    (parts-alike (a.number ∙ p.0.numbered) (omega (arith, a.value, p.0.long)) bytes, λ z. p.1 (sym (a.number ∙ p.0.numbered) ∙ z))
