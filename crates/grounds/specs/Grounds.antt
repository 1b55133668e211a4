-- The grounds for turning a call down, rules G1 to G11 and G20, and which of them concern a call (A2). A call answers with the number of the first that holds, or 0. Assumes nothing.
use Rattle.std.specs.Prelude.{ℕ, ◌/◌, ◌%◌, Bool, cond, not, ◌||◌, List, [], ◌∷◌, ◌++◌, ltb, eqb, ℤ, pos, length}
use Rattle.std.specs.Int.Signed.{lt_z}
use Rattle.lists.specs.Lists.{total, missing}
use Rattle.verdict.specs.Test.{Closeness, least_closeness, most_closeness}
use Rattle.joinlog.specs.JoinLog.{record_numbers, line_log, same_numbers}
use Rattle.palette.specs.Cards.{entries, most_entries, pixels_of}
use Rattle.palette.specs.Sound.{most_pixels}
use Rattle.swatch.specs.Input.{header_of, size_of, pixel_bytes, bytes_of}
use Rattle.swatch.specs.Reading.{bad_size}

pub record Ground : Type 0 where
  pub number : ℕ
  pub holds : Bool

-- A2: the number of the first ground that holds; 0 if none does
unfoldable pub first_ground : List Ground → ℕ
first_ground [] = 0
first_ground (g ∷ gs) = cond g.holds g.number (first_ground gs)

-- G1: the header is not there
abbrev pub no_header : List ℕ → Ground
no_header text = record { number = 1; holds = missing (header_of text) }

-- G2: no pixels, or too many
abbrev pub wrong_size : List ℕ → Ground
wrong_size text = record { number = 2; holds = bad_size (size_of text) }

-- G3: the pixel lines cannot be read, or are not as many as they should be
abbrev pub bad_lines : List ℕ → Ground
bad_lines text = record { number = 3; holds = missing (pixel_bytes text) }

-- G4: no whole pixels
abbrev pub bad_bytes : List ℕ → Ground
bad_bytes bytes = record { number = 4; holds = eqb (length bytes) 0 || ltb 0 (length bytes % 3) }

-- G5: too many pixels
abbrev pub many_pixels : List ℕ → Ground
many_pixels bytes = record { number = 5; holds = ltb most_pixels (length bytes / 3) }

-- G6: too few bins, or too many
abbrev pub bad_length : List ℕ → Ground
bad_length h = record { number = 6; holds = ltb (length h) 2 || ltb 256 (length h) }

-- G7: too many counts
abbrev pub large_sum : List ℕ → Ground
large_sum h = record { number = 7; holds = ltb 65536 (total h) }

-- G8: too small a closeness, or too large
abbrev pub bad_closeness : Closeness → Ground
bad_closeness e = record { number = 8; holds = lt_z e least_closeness || lt_z most_closeness e }

-- G9: not a place for each label
abbrev pub bad_labels : ℕ → ℕ → Ground
bad_labels labels places = record { number = 9; holds = not (eqb places labels) }

-- G10: fewer places than bins, for separators or for records
abbrev pub few_places : List ℕ → ℕ → Ground
few_places h places = record { number = 10; holds = ltb places (length h) }

-- G11: more entries than a card may hold, where `most` is the most
abbrev pub many_entries : (most : ℕ) → Closeness → List ℕ → Ground
many_entries most e bytes = record { number = 11; holds = ltb most (length (entries e (pixels_of bytes))) }

-- G20: another log than that of the line
abbrev pub other_log : Closeness → List ℕ → List ℤ → Ground
other_log e h log = record { number = 20; holds = not (same_numbers log (line_log e h)) }

-- A2: the number of each call, from the grounds that concern it, in their order. The version, the measures and the line of a ground have none
unfoldable pub fit_number : List ℕ → ℕ
fit_number h = first_ground (bad_length h ∷ large_sum h ∷ [])

unfoldable pub verdict_number : Closeness → List ℕ → ℕ
verdict_number e h = first_ground (bad_length h ∷ large_sum h ∷ bad_closeness e ∷ [])

-- the number of a modes call, for a line and for a ring
unfoldable pub modes_number : Closeness → List ℕ → ℕ → ℕ
modes_number e h places = first_ground (bad_length h ∷ large_sum h ∷ bad_closeness e ∷ few_places h places ∷ [])

-- the number of a log call. A place of the log is four numbers (G10); what is left over at the end is no place
unfoldable pub log_number : Closeness → List ℕ → (numbers : ℕ) → ℕ
log_number e h numbers = first_ground (bad_length h ∷ large_sum h ∷ bad_closeness e ∷ few_places h (numbers / record_numbers) ∷ [])

-- the number of a replay: its places are those of the separator list, and its log may have any length
unfoldable pub replay_number : Closeness → List ℕ → List ℤ → (places : ℕ) → ℕ
replay_number e h log places = first_ground (bad_length h ∷ large_sum h ∷ bad_closeness e ∷ few_places h places ∷ other_log e h log ∷ [])

-- the grounds of a card call that are tested before the entries are found
abbrev pub asked_grounds : Closeness → List ℕ → ℕ → List Ground
asked_grounds e bytes places = bad_bytes bytes ∷ many_pixels bytes ∷ bad_closeness e ∷ bad_labels (length bytes / 3) places ∷ []

-- the number of a card call: as far as it is known then, and with the entries
unfoldable pub asked_number : Closeness → List ℕ → ℕ → ℕ
asked_number e bytes places = first_ground (asked_grounds e bytes places)

unfoldable pub card_number : Closeness → List ℕ → ℕ → ℕ
card_number e bytes places = first_ground (asked_grounds e bytes places ++ (many_entries most_entries e bytes ∷ []))

-- the number of a widening: a label for each byte
unfoldable pub widen_number : List ℕ → ℕ → ℕ
widen_number narrow places = first_ground (bad_labels (length narrow) places ∷ [])

-- X6: the closeness that the text call works at and prints; a field has no sign
unfoldable pub program_closeness : ℕ
program_closeness = 0

-- the grounds of reading the text of a swatch; its number
abbrev pub read_grounds : List ℕ → List Ground
read_grounds text = no_header text ∷ wrong_size text ∷ bad_lines text ∷ []

unfoldable pub text_number : List ℕ → ℕ
text_number text = first_ground (read_grounds text ++ (many_entries most_entries (pos program_closeness) (bytes_of text) ∷ []))
