-- What is printed for a text that is served, and for one that is turned down. Assumes nothing.
use Rattle.std.proofs.Common.{◌≡◌, ℕ, List, sym, ap, ◌∙◌}
use borrow.Author.Tests.{eq-eqb, ne_eqb}
use Rattle.grounds.specs.Grounds.{text_number}
use Rattle.kistrovu.specs.declared.Printed.{Printed}
use Rattle.kistrovu.specs.Answers.{printed_answer, ground_answer}
use Rattle.card.specs.Program.{program_answer}

number-of : (text : List ℕ) (p : Printed) → p ≡ printed_answer text → p.number ≡ text_number text
unfolding printed_answer
number-of text p e = ap (λ (q : Printed). q.number) e

pub served_reply : (text : List ℕ) (p : Printed) → p ≡ printed_answer text → p.number ≡ 0 → p ≡ program_answer text
unfolding program_answer
served_reply text p e z = rw (eq-eqb (text_number text) 0 (sym (number-of text p e) ∙ z)) e

pub ground_reply : (text : List ℕ) (p q : Printed) → p ≡ printed_answer text → ¬ (p.number ≡ 0) → q ≡ ground_answer p.number → q ≡ program_answer text
unfolding program_answer
ground_reply text p q e n g =
    rw (ne_eqb (text_number text) 0 (λ z. n (number-of text p e ∙ z))) (g ∙ ap ground_answer (number-of text p e))
