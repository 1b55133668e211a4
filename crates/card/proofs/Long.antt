-- The program's answer to a text longer than any swatch. Assumes nothing.
use mathlib.Core.Path.{◌≡◌, ap}
use Prim.Native.Nat.{suc}
use lib.ListN.{take}
use Rattle.swatch.specs.Reading.{longest_swatch}
use Rattle.kistrovu.specs.declared.Printed.{Printed}
use Rattle.grounds.specs.Grounds.{text_number}
use Rattle.kistrovu.specs.Answers.{printed_answer}
use Rattle.kistrovu.proofs.Texts.{long-text-printed}
use Rattle.card.specs.Program.{most_read, program_answer, LongInput}

pub long-text-answered : LongInput
unfolding most_read program_answer printed_answer
long-text-answered text l =
    let same = long-text-printed text l in
    let number : text_number (take (suc longest_swatch) text) ≡ text_number text = ap (λ (p : Printed). p.number) same in
    rw (same, number)
