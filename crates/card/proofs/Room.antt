-- What is printed has room in its places. Assumes nothing.
use Prim.Native.Nat.{ℕ, ◌-◌}
use mathlib.Core.List.{List, [], ◌∷◌}
use native.Mathlib.Omega.{arith}
use lib.Dec.{eqb}
use lib.ListN.{length, replicate, length-append}
use Rattle.lists.specs.Lists.{padded}
use Rattle.lists.proofs.Cases.{by_cond}
use Rattle.swatch.specs.Output.{printed_line, printed_most}
use Rattle.grounds.specs.Grounds.{text_number}
use Rattle.kistrovu.specs.Answers.{printed, printed_bytes, printed_answer, ground_answer}
use Rattle.card.specs.Program.{program_answer, HasRoom}

bytes-room : (number : ℕ) (xs : List ℕ) → HasRoom (printed_bytes number xs)
unfolding padded
bytes-room number xs = omega (arith, length-append xs (replicate (printed_most - length xs) 0))

pub answer-room : (text : List ℕ) → HasRoom (program_answer text)
unfolding program_answer printed_answer ground_answer
answer-room text =
    let number = text_number text in
    by_cond HasRoom (eqb number 0) (printed_answer text) (ground_answer number) (λ q. bytes-room number (printed text)) (λ q. bytes-room 0 (printed_line (number ∷ [])))
