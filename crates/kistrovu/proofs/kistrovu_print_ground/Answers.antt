-- `kistrovu_print_ground` keeps its promise. Assumes nothing.
use Rattle.std.proofs.Common.{arith, refl, ℕ, ◌≡◌, ◌∙◌, [], ◌∷◌, length}
use Rattle.lists.proofs.Buffers.{over-padded}
use Rattle.palette.specs.Cards.{most_entries}
use Rattle.swatch.specs.Output.{printed_line, printed_most}
use Rattle.swatch.proofs.PrintedLengths.{line-length}
use Rattle.kistrovu.specs.Answers.{ground_answer}
use Rattle.kistrovu.proofs.kistrovu_print_ground.Goals as goal

-- whatever the number
seven-bytes : (n k : ℕ) → k ≡ length (printed_line (n ∷ [])) → k ≡ 7
seven-bytes n k e = e ∙ line-length (n ∷ [])

pub overflow_cast-result : goal.overflow_cast-result
overflow_cast-result c = omega (arith, seven-bytes _ _ c.print_number-len.ensures.len)

pub returns : goal.returns
unfolding ground_answer printed_most most_entries
returns c =
    let line = printed_line (c.args.number ∷ []) in
    rw (c.print_number-len.ensures.len, c.print_number-len.ensures.text ∙ over-padded printed_most 0 line) refl
