-- What reading a swatch hands back: grounds 1, 2 and 3, in their order. Assumes nothing.
--   given                        a value that may be missing, as the code hands it back
--   colour_field                 a field of 0 to 255
--   swatch_number, reading_of    the number of a text; how many pixels it has, or the ground with that number
--   longest_swatch, LongReading  how many bytes the longest swatch has; how longer texts are read
use Rattle.std.specs.Prelude.{ℕ, suc, ◌*◌, ◌<◌, ◌≡◌, Bool, cond, ◌||◌, List, leb, ltb, eqb, length, take, Some, None, Result, Ok, Err}
use Rattle.std.specs.Prelude.{Option as Answer}
use Rattle.std.proofs.Math.Option.{Option, none, some}
use Rattle.lists.specs.Lists.{maybe, missing}
use Rattle.swatch.specs.Input.{field, header_of, size_of, pixel_bytes}
use Rattle.swatch.specs.declared.Unread.{Unread}
use Rattle.swatch.specs.declared.Unread.TheVariants.{Header, Size, Lines}

-- a value that may be missing: an `Option` of the code, in the words of these pages
abbrev pub given : {A : Type 0} → Answer A → Option A
given (Some a) = some a
given None = none

-- X4: the value of a pixel line's field
unfoldable pub colour_field : List ℕ → Option ℕ
colour_field columns = maybe none (λ v. cond (leb v 255) (some v) none) (field columns)

unfoldable pub most_swatch_pixels : ℕ
most_swatch_pixels = 16384

-- G2: no pixels, or too many
abbrev pub bad_size : ℕ → Bool
bad_size pixels = eqb pixels 0 || ltb most_swatch_pixels pixels

-- A2: the first of G1, G2 and G3 that holds; 0 if none does
unfoldable pub swatch_number : List ℕ → ℕ
swatch_number text = cond (missing (header_of text)) 1 (cond (bad_size (size_of text)) 2 (cond (missing (pixel_bytes text)) 3 0))

-- the number of a ground
abbrev pub unread_number : Unread → ℕ
unread_number Header = 1
unread_number Size = 2
unread_number Lines = 3

-- the number that an answer has: 0 if it is no ground
abbrev pub reading_number : Result ℕ Unread → ℕ
reading_number (Ok pixels) = 0
reading_number (Err why) = unread_number why

-- A3: how many pixels, or the first of those grounds that holds
unfoldable pub reading_of : List ℕ → Result ℕ Unread
reading_of text = cond (missing (header_of text)) (Err Header) (cond (bad_size (size_of text)) (Err Size) (cond (missing (pixel_bytes text)) (Err Lines) (Ok (size_of text))))

-- the answer has the number of the text. Proved in proofs/Numbers
abbrev pub ReadingNumbered : Type 0
ReadingNumbered = (text : List ℕ) → reading_number (reading_of text) ≡ swatch_number text

-- a header and as many pixel lines as a swatch may have, 13 bytes each
unfoldable pub longest_swatch : ℕ
longest_swatch = 13 * suc most_swatch_pixels

-- X8: a text longer than any swatch is turned down, with the number that its first bytes get, one byte more than the longest swatch has
abbrev pub LongReading : Type 0
LongReading = (text : List ℕ) → longest_swatch < length text → (reading_of (take (suc longest_swatch) text) ≡ reading_of text) × (0 < swatch_number text)
