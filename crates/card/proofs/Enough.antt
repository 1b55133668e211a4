-- A text that was read to its end, or as far as it matters, has the answer of the whole text. Assumes nothing.
use Rattle.std.proofs.Common.{◌≡◌, ℕ, ◌≤◌, List, ◌++◌, Option, None, Some, IfSome, arith, length, take, sym, ap, ◌∙◌, append-nil, length-append, subst}
use Rattle.kistrovu.specs.declared.Printed.{Printed}
use lib.Seq.{take-append_seam}
use Rattle.lists.proofs.Cases.{by_order}
use Rattle.card.specs.Program.{most_read, program_answer, ReadsEnough}
use Rattle.card.proofs.Long.{long-text-answered}

-- a part of a text that has as many bytes as matter
part-answered : (text rest : List ℕ) → length text ≡ most_read → program_answer text ≡ program_answer (text ++ rest)
unfolding most_read
part-answered text rest e =
    ap program_answer (sym (ap (λ n. take n (text ++ rest)) (sym e) ∙ take-append_seam text rest))
    ∙ long-text-answered (text ++ rest) (omega (arith, length-append text rest, e))

-- what holds of the answer to what was read holds of the answer to all that the input held
pub enough : (old new : Option (List ℕ)) (text : List ℕ) (P : Printed → Type 0) → length text ≤ most_read → ReadsEnough old new text → P (program_answer text)
    → IfSome old (λ all. P (program_answer all))
enough None new text P most r h = tt
enough (Some all) None text P most r h = absurd r.0
enough (Some all) (Some rest) text P most r h =
    by_order (length text) most_read
    (λ few. subst (λ x. P (program_answer x)) (sym (r.0 ∙ ap (λ l. text ++ l) (r.1 few) ∙ append-nil text)) h)
    (λ many. subst P (part-answered text rest (omega (arith, many, most)) ∙ ap program_answer (sym r.0)) h)
