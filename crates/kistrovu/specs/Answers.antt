-- What each call (A1) hands back and leaves behind, served (A4) or turned down (A3). Assumes nothing.
use Rattle.std.specs.Prelude.{ℕ, Bool, false, cond, List, [], ◌∷◌, map, eqb, ℤ, pos, length}
use Rattle.lists.specs.Lists.{padded, over}
use Rattle.pixel.specs.Colour.{measures_of}
use Rattle.pooling.specs.declared.Block.{Block}
use Rattle.pooling.specs.Blocks.{direction, fitted}
use Rattle.verdict.specs.declared.Verdict.{Verdict}
use Rattle.verdict.specs.Test.{Closeness, verdict_of}
use Rattle.segmentation.specs.Joining.{line_separators}
use Rattle.joinlog.specs.JoinLog.{made_on_line, line_log}
use Rattle.listing.specs.Listing.{ring_separators}
use Rattle.palette.specs.declared.Entry.{Entry}
use Rattle.palette.specs.Cards.{pixels_of, entries, labels, most_entries, no_entry}
use Rattle.swatch.specs.Input.{bytes_of}
use Rattle.swatch.specs.Output.{printed_line, printed_card, printed_most}
use Rattle.grounds.specs.Grounds.{fit_number, verdict_number, modes_number, log_number, replay_number, card_number, widen_number, program_closeness, text_number}
use Rattle.kistrovu.specs.declared.MeasuresAnswer.{MeasuresAnswer}
use Rattle.kistrovu.specs.declared.FitAnswer.{FitAnswer}
use Rattle.kistrovu.specs.declared.VerdictAnswer.{VerdictAnswer}
use Rattle.kistrovu.specs.declared.ModesAnswer.{ModesAnswer}
use Rattle.kistrovu.specs.declared.LogAnswer.{LogAnswer}
use Rattle.kistrovu.specs.declared.Card.{Card}
use Rattle.kistrovu.specs.declared.Printed.{Printed}

-- D1 and A2: the first value if the call is served (its number is 0), else the second
abbrev pub served : {A : Type 0} → ℕ → A → A → A
served n a b = cond (eqb n 0) a b

-- A1: the version in the file VERSION, major · 10,000 + minor · 100 + patch. tools/version writes it here
abbrev pub library_version : ℕ
library_version = 60000

unfoldable pub measures_answer : ℕ → ℕ → ℕ → MeasuresAnswer
measures_answer r g b = record { number = 0; measures = measures_of (record { red = r; green = g; blue = b }) }

-- P4: each bin's block sum and block length
unfoldable pub fit_answer : Bool → List ℕ → FitAnswer
fit_answer rising h = record {
  number = fit_number h;
  sums = padded 256 0 (served (fit_number h) (map (λ (b : Block). b.sum) (fitted (direction rising) h)) []);
  lengths = padded 256 0 (served (fit_number h) (map (λ (b : Block). b.len) (fitted (direction rising) h)) []);
}

-- A3: the zeros that stand for a verdict when the call is turned down
abbrev pub no_verdict : Verdict
no_verdict = record { cost = pos 0; rejected = false }

-- T6: the cost, and whether the histogram is rejected
unfoldable pub verdict_answer : Closeness → Bool → List ℕ → VerdictAnswer
verdict_answer e rising h = record {
  number = verdict_number e h;
  verdict = served (verdict_number e h) (verdict_of e (direction rising) h) no_verdict;
}

-- A4: how many separators there are, of a line or of a ring, and the separator list as the call leaves it
unfoldable pub modes_answer : List ℕ → ℕ → ModesAnswer
modes_answer separators number = record { number = number; separators = served number (length separators) 0 }

unfoldable pub modes_list : List ℕ → ℕ → List ℕ → List ℕ
modes_list separators number list = served number (over separators list) list

unfoldable pub line_answer : Closeness → List ℕ → ℕ → ModesAnswer
line_answer e h places = modes_answer (line_separators e h) (modes_number e h places)

unfoldable pub ring_answer : Closeness → List ℕ → ℕ → ModesAnswer
ring_answer e h places = modes_answer (ring_separators e h) (modes_number e h places)

-- A4, S10
unfoldable pub line_list : Closeness → List ℕ → List ℕ → List ℕ
line_list e h list = modes_list (line_separators e h) (modes_number e h (length list)) list

-- A4, R8
unfoldable pub ring_list : Closeness → List ℕ → List ℕ → List ℕ
ring_list e h list = modes_list (ring_separators e h) (modes_number e h (length list)) list

-- J2: how many joins there are
unfoldable pub log_answer : Closeness → List ℕ → (numbers : ℕ) → LogAnswer
log_answer e h numbers = record { number = log_number e h numbers; joins = served (log_number e h numbers) (length (made_on_line e h)) 0 }

-- A4, J2: the list as a log call leaves it: the log in its first places, and every number behind it as it was
unfoldable pub log_list : Closeness → List ℕ → List ℤ → List ℤ
log_list e h list = served (log_number e h (length list)) (over (line_log e h) list) list

-- J4: a replay that is served hands back and lists what a line call does
unfoldable pub replay_answer : Closeness → List ℕ → (log : List ℤ) → (places : ℕ) → ModesAnswer
replay_answer e h log places = modes_answer (line_separators e h) (replay_number e h log places)

-- A4, S10
unfoldable pub replay_list : Closeness → List ℕ → (log : List ℤ) → List ℕ → List ℕ
replay_list e h log list = modes_list (line_separators e h) (replay_number e h log (length list)) list

-- the entries of a served card
unfoldable pub served_entries : Closeness → List ℕ → ℕ → List Entry
served_entries e bytes places = served (card_number e bytes places) (entries e (pixels_of bytes)) []

unfoldable pub card_answer : Closeness → List ℕ → ℕ → Card
card_answer e bytes places = record {
  number = card_number e bytes places;
  len = length (served_entries e bytes places);
  entries = padded most_entries no_entry (served_entries e bytes places);
}

-- A4: the label buffer as a card call leaves it
unfoldable pub label_list : Closeness → List ℕ → List ℕ → List ℕ
label_list e bytes list = served (card_number e bytes (length list)) (labels e (pixels_of bytes)) list

-- C9, A4: the label buffer as a widening leaves it: each one-byte label in its place. The number is all that is handed back
unfoldable pub widened_list : (narrow : List ℕ) → List ℕ → List ℕ
widened_list narrow list = served (widen_number narrow (length list)) narrow list

-- X5 and X6: the bytes of a text's card; none if the text is turned down
unfoldable pub printed : List ℕ → List ℕ
printed text =
    let ps = pixels_of (bytes_of text) in
    served (text_number text) (printed_card (length ps) program_closeness (entries (pos program_closeness) ps)) []

-- the bytes to print in the first places, and zeros in the rest (A4)
abbrev pub printed_bytes : ℕ → List ℕ → Printed
printed_bytes number xs = record { number = number; len = length xs; bytes = padded printed_most 0 xs }

unfoldable pub printed_answer : List ℕ → Printed
printed_answer text = printed_bytes (text_number text) (printed text)

-- the line of a ground (X7). The call takes any number and is always served
unfoldable pub ground_answer : ℕ → Printed
ground_answer number = printed_bytes 0 (printed_line (number ∷ []))
