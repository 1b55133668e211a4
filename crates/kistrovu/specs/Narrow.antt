-- C10: a lower limit on entries changes no card that keeps to it, and labels of one byte are those of the limit 255. Assumes nothing.
use Rattle.std.specs.Prelude.{ℕ, ◌-◌, ◌≤◌, ◌<◌, ◌^◌, ◌≡◌, List, [], ◌∷◌, ◌++◌, pos, length, get_or, replicate}
use Rattle.lists.specs.Lists.{padded}
use Rattle.verdict.specs.Test.{Closeness}
use Rattle.palette.specs.Cards.{pixels_of, entries, labels, most_entries, no_entry}
use Rattle.swatch.specs.Input.{bytes_of}
use Rattle.swatch.specs.Output.{printed_card, bytes_for, printed_most}
use Rattle.grounds.specs.Grounds.{first_ground, many_entries, asked_grounds, program_closeness, read_grounds}
use Rattle.kistrovu.specs.declared.Card.{Card}
use Rattle.kistrovu.specs.declared.Printed.{Printed}
use Rattle.kistrovu.specs.Answers.{served, card_answer, label_list, widened_list, printed_answer}
use Rattle.kistrovu.specs.Facts.{IfServed}

-- the card call and the text call where `most` is the most entries that a card may hold (G11)
module _ (most : ℕ) where
  unfoldable pub card_number_up_to : Closeness → List ℕ → ℕ → ℕ
  card_number_up_to e bytes places = first_ground (asked_grounds e bytes places ++ (many_entries most e bytes ∷ []))

  unfoldable pub card_up_to : Closeness → List ℕ → ℕ → Card
  card_up_to e bytes places =
      let es = served (card_number_up_to e bytes places) (entries e (pixels_of bytes)) [] in
      record { number = card_number_up_to e bytes places; len = length es; entries = padded most no_entry es }

  unfoldable pub labels_up_to : Closeness → List ℕ → List ℕ → List ℕ
  labels_up_to e bytes list = served (card_number_up_to e bytes (length list)) (labels e (pixels_of bytes)) list

  unfoldable pub text_number_up_to : List ℕ → ℕ
  text_number_up_to text = first_ground (read_grounds text ++ (many_entries most (pos program_closeness) (bytes_of text) ∷ []))

  unfoldable pub printed_up_to : List ℕ → Printed
  printed_up_to text =
      let ps = pixels_of (bytes_of text) in
      let xs = served (text_number_up_to text) (printed_card (length ps) program_closeness (entries (pos program_closeness) ps)) [] in
      record { number = text_number_up_to text; len = length xs; bytes = padded (bytes_for most) 0 xs }

-- C10: at the limit that a card has, these are what the calls hand back and leave; so they differ from the calls in the limit alone. Proved in proofs/Narrow
pub record OwnLimit : Type 0 where
  pub card : (e : Closeness) (bytes : List ℕ) (places : ℕ) → card_up_to most_entries e bytes places ≡ card_answer e bytes places
  pub labels : (e : Closeness) (bytes list : List ℕ) → labels_up_to most_entries e bytes list ≡ label_list e bytes list
  pub text : (text : List ℕ) → printed_up_to most_entries text ≡ printed_answer text

-- what is the same under a limit of `few` entries; the places that a card or a text then lacks hold zeros
module _ (few : ℕ) where
  -- C10: of a card call the number, the entries and the labels
  pub record CardKept (e : Closeness) (bytes list : List ℕ) : Type 0 where
    pub number : (card_answer e bytes (length list)).number ≡ (card_up_to few e bytes (length list)).number
    pub len : (card_answer e bytes (length list)).len ≡ (card_up_to few e bytes (length list)).len
    pub entries : (card_answer e bytes (length list)).entries ≡ (card_up_to few e bytes (length list)).entries ++ replicate (most_entries - few) no_entry
    pub labels : label_list e bytes list ≡ labels_up_to few e bytes list

  -- C10: of a text call the number and the bytes
  pub record TextKept (text : List ℕ) : Type 0 where
    pub number : (printed_answer text).number ≡ (printed_up_to few text).number
    pub len : (printed_answer text).len ≡ (printed_up_to few text).len
    pub bytes : (printed_answer text).bytes ≡ (printed_up_to few text).bytes ++ replicate (printed_most - bytes_for few) 0

-- C10: for every lower limit, wherever it does not turn the call down (G11). Proved in proofs/Narrow
abbrev pub CardAlwaysKept : Type 0
CardAlwaysKept = (few : ℕ) → few ≤ most_entries → (e : Closeness) (bytes list : List ℕ) → ¬ (card_number_up_to few e bytes (length list) ≡ 11) → CardKept few e bytes list

-- C10: likewise. Proved in proofs/Narrow
abbrev pub TextAlwaysKept : Type 0
TextAlwaysKept = (few : ℕ) → few ≤ most_entries → (text : List ℕ) → ¬ (text_number_up_to few text ≡ 11) → TextKept few text

-- C10: the most entries when a label had one byte
abbrev pub most_byte_entries : ℕ
most_byte_entries = 255

-- C10: the labels of a card under that limit fit one byte each, and widening them (C9) gives the labels of the card call
pub record LabelsNarrow (e : Closeness) (bytes list : List ℕ) : Type 0 where
  pub fit : (i : ℕ) → get_or (labels_up_to most_byte_entries e bytes list) i 0 < 2 ^ 8
  pub widened : (lent : List ℕ) → length lent ≡ length list → widened_list (labels_up_to most_byte_entries e bytes list) lent ≡ label_list e bytes lent

-- C10: of every card that is served under it. Proved in proofs/Narrow
abbrev pub LabelsAlwaysNarrow : Type 0
LabelsAlwaysNarrow = (e : Closeness) (bytes list : List ℕ) → IfServed (card_number_up_to most_byte_entries e bytes (length list)) (LabelsNarrow e bytes list)
