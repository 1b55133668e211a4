-- What the program reads and writes. Assumes nothing.
use Rattle.std.specs.Prelude.{ℕ, suc, ◌≤◌, ◌<◌, ◌≡◌, List, length, take, Option, IfSome}
use Rattle.std.specs.Io.KnownBytes.{Appends, Consumes, Keeps, IsAtEnd}
use Rattle.swatch.specs.Reading.{longest_swatch}
use Rattle.kistrovu.specs.declared.Printed.{Printed}
use Rattle.grounds.specs.Grounds.{text_number}
use Rattle.kistrovu.specs.Answers.{served, printed_answer, ground_answer}
use Rattle.card.specs.declared.Failure.{Failure}
use Rattle.card.specs.declared.Failure.TheVariants.{Input, Output}

-- X7: the card of the text if it is served, else the line of its ground
unfoldable pub program_answer : List ℕ → Printed
program_answer text = served (text_number text) (printed_answer text) (ground_answer (text_number text))

-- X8: how many bytes of a text the program reads: one more than the longest swatch has
unfoldable pub most_read : ℕ
most_read = suc longest_swatch

-- X8: the rest of a text does not matter. Proved in proofs/Long
abbrev pub LongInput : Type 0
LongInput = (text : List ℕ) → longest_swatch < length text → program_answer (take most_read text) ≡ program_answer text

-- there is a place for every byte to print
abbrev pub HasRoom : Printed → Type 0
HasRoom p = p.len ≤ length p.bytes

-- the first of the bytes to print are appended to what a writer holds, all of them or fewer
abbrev pub PrintsPart : Option (List ℕ) → Option (List ℕ) → Printed → Type 0
PrintsPart old new p = (n : ℕ) × (n ≤ p.len) × Appends old new (take n p.bytes)

-- all of them are
abbrev pub PrintsAll : Option (List ℕ) → Option (List ℕ) → Printed → Type 0
PrintsAll old new p = Appends old new (take p.len p.bytes)

-- what a run has read: the text up to its end, or as much of it as matters
abbrev pub ReadsEnough : Option (List ℕ) → Option (List ℕ) → List ℕ → Type 0
ReadsEnough old new text = Consumes old new text × (length text < most_read → IsAtEnd new)

-- a run whose reading failed has read the first bytes of what the input held, and they stand in the first places of the buffer
abbrev pub ReadsPart : Option (List ℕ) → Option (List ℕ) → List ℕ → Type 0
ReadsPart old new buffer = (n : ℕ) × (n ≤ length buffer) × Consumes old new (take n buffer)

-- a run that does not fail writes what the program writes for the text that the input held
abbrev pub WritesAnswer : (input old new : Option (List ℕ)) → Type 0
WritesAnswer input old new = IfSome input (λ text. PrintsAll old new (program_answer text))

-- if reading fails, nothing is written; if writing fails, no more than a part of that
abbrev pub StopsShort : Failure → (input old new : Option (List ℕ)) → Type 0
StopsShort (Input e) input old new = Keeps old new
StopsShort (Output e) input old new = IfSome input (λ text. PrintsPart old new (program_answer text))
