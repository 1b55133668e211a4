-- Printing a card: rule X5. Assumes nothing.
use Rattle.std.specs.Prelude.{ℕ, zero, suc, ◌+◌, ◌*◌, ◌/◌, ◌%◌, ◌^◌, ◌≤◌, ◌≡◌, cond, ◌&&◌, ltb, length}
use mathlib.Core.List.{List, [], ◌∷◌, ◌++◌, flat_map}
use Rattle.palette.specs.declared.Entry.{Entry}
use Rattle.palette.specs.Cards.{most_entries}
use Rattle.swatch.specs.Input.{line_feed, space, digit_zero}

-- X2: a number in as many columns as given, which it fits. Each column has the digit of a power of ten, or a space in front of the first digit
unfoldable pub printed_in : ℕ → ℕ → List ℕ
printed_in zero v = []
printed_in (suc j) v = cond (ltb 0 j && ltb v (10 ^ j)) space (digit_zero + v / 10 ^ j % 10) ∷ printed_in j v

-- X1: a line of fields of w columns each
unfoldable pub line_in : ℕ → List ℕ → List ℕ
line_in w vs = flat_map (printed_in w) vs ++ line_feed ∷ []

-- X5: a number below a million in 6 columns
abbrev pub printed_field : ℕ → List ℕ
printed_field = printed_in 6

-- X5: a line of such fields
abbrev pub printed_line : List ℕ → List ℕ
printed_line = line_in 6

-- X5: the figures of an entry, in the order of its line
abbrev pub entry_figures : Entry → List ℕ
entry_figures t = t.kind ∷ t.hue ∷ t.saturation ∷ t.intensity ∷ t.red ∷ t.green ∷ t.blue ∷ t.count ∷ []

unfoldable pub printed_entry : Entry → List ℕ
printed_entry t = printed_line (entry_figures t)

-- X5: the line of entries, pixels and closeness, then the entries
unfoldable pub printed_card : ℕ → ℕ → List Entry → List ℕ
printed_card pixels closeness es = printed_line (length es ∷ pixels ∷ closeness ∷ []) ++ flat_map printed_entry es

-- how many bytes a card of n entries has: a line of 3 fields, and a line of 8 for each entry
abbrev pub bytes_for : ℕ → ℕ
bytes_for n = 19 + 49 * n

-- the most bytes printed
unfoldable pub printed_most : ℕ
printed_most = bytes_for most_entries

-- proved in proofs/PrintedLengths
abbrev pub PrintedLength : Type 0
PrintedLength = (pixels closeness : ℕ) (es : List Entry) → length (printed_card pixels closeness es) ≡ bytes_for (length es)

abbrev pub CardFits : Type 0
CardFits = (pixels closeness : ℕ) (es : List Entry) → length es ≤ most_entries → length (printed_card pixels closeness es) ≤ printed_most
