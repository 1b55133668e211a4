-- Texts mean what they show: what is written in fields is read back. Each statement is proved in the file of the same name under proofs/. Assumes nothing.
--   FieldRead                   a number in its columns is read back
--   written_swatch, SwatchRead  the text of a swatch; it is read back
--   figures_in, CardRead        all fields of a printed text, line by line; those of a card are its figures
use Rattle.std.specs.Prelude.{ℕ, ◌+◌, ◌*◌, ◌/◌, ◌^◌, ◌≤◌, ◌<◌, ◌≡◌, cond, ◌&&◌, eqb, pos, length, get_or, ◌≤ℤ◌}
use mathlib.Core.List.{List, [], ◌∷◌, ◌++◌, map, flat_map}
use Rattle.std.proofs.Math.Option.{Option, none, some}
use Rattle.lists.specs.Lists.{whole}
use Rattle.pixel.specs.declared.Pixel.{Pixel}
use Rattle.pixel.specs.Ranges.{Bytes}
use Rattle.verdict.specs.Test.{most_closeness}
use Rattle.palette.specs.declared.Entry.{Entry}
use Rattle.palette.specs.Cards.{entries, most_entries, pixels_of}
use Rattle.palette.specs.Sound.{pixel_at, most_pixels}
use Rattle.swatch.specs.Input.{line_feed, lines_of, field, pieces, header_of, bytes_of}
use Rattle.swatch.specs.Reading.{most_swatch_pixels, swatch_number}
use Rattle.swatch.specs.Output.{printed_in, line_in, printed_line, entry_figures, printed_card}

-- a number that fits its columns is the value of its field (X2). In 6 columns: every number below a million
abbrev pub FieldRead : Type 0
FieldRead = (w v : ℕ) → 1 ≤ w → v < 10 ^ w → field (printed_in w v) ≡ some v

-- ---- a swatch
abbrev pub pixel_figures : Pixel → List ℕ
pixel_figures p = p.red ∷ p.green ∷ p.blue ∷ []

-- the header, and a line for each pixel (X3, X4)
unfoldable pub written_swatch : ℕ → ℕ → List Pixel → List ℕ
written_swatch width height ps = line_in 6 (width ∷ height ∷ []) ++ flat_map (λ p. line_in 4 (pixel_figures p)) ps

-- pixels of bytes, as many as a swatch of this size has (G2)
pub record MakesSwatch (width height : ℕ) (ps : List Pixel) : Type 0 where
  pub not_empty : 1 ≤ width * height
  pub not_too_many : width * height ≤ most_swatch_pixels
  pub size : length ps ≡ width * height
  pub bytes : (i : ℕ) → i < length ps → Bytes (pixel_at ps i)

-- how their text is read
pub record ReadBack (width height : ℕ) (ps : List Pixel) : Type 0 where
  pub header : header_of (written_swatch width height ps) ≡ some (width ∷ height ∷ [])
  pub accepted : swatch_number (written_swatch width height ps) ≡ 0
  pub pixels : pixels_of (bytes_of (written_swatch width height ps)) ≡ ps

-- every swatch that can be written is accepted, and is read as the pixels that it was written from (X1 to X4)
abbrev pub SwatchRead : Type 0
SwatchRead = (width height : ℕ) (ps : List Pixel) → MakesSwatch width height ps → ReadBack width height ps

-- ---- a printed text
-- the n fields, w columns each, of a line that has only these and a line feed
unfoldable pub fields_in : ℕ → ℕ → List ℕ → Option (List ℕ)
fields_in w n line = cond (eqb (length line) (w * n + 1) && eqb (get_or line (w * n) 0) line_feed) (whole (map field (pieces w n line))) none

-- all fields of 6 columns, line by line (X5, X7)
unfoldable pub figures_in : List ℕ → Option (List (List ℕ))
figures_in text = whole (map (λ line. fields_in 6 (length line / 6) line) (lines_of text))

-- the figures of a card, line by line (X5)
abbrev pub card_figures : ℕ → ℕ → List Entry → List (List ℕ)
card_figures pixels closeness es = (length es ∷ pixels ∷ closeness ∷ []) ∷ map entry_figures es

-- every figure fits 6 columns
abbrev pub SmallFigures : List (List ℕ) → Type 0
SmallFigures rows = (i j : ℕ) → i < length rows → j < length (get_or rows i []) → get_or (get_or rows i []) j 0 < 10 ^ 6

-- lines of such figures, as they are printed, are read back: a card, and the number of a ground (X5, X7). Proved in proofs/CardRead
abbrev pub LinesRead : Type 0
LinesRead = (rows : List (List ℕ)) → SmallFigures rows → figures_in (flat_map printed_line rows) ≡ some rows

-- what is printed for the card of these pixels. A field has no sign (X2), so the closeness e is not negative
pub record CardReadBack (e : ℕ) (ps : List Pixel) : Type 0 where
  pub small : SmallFigures (card_figures (length ps) e (entries (pos e) ps))
  pub figures : figures_in (printed_card (length ps) e (entries (pos e) ps)) ≡ some (card_figures (length ps) e (entries (pos e) ps))

-- every card that is served shows its figures (X5; the limits of G5, G8 and G11)
abbrev pub CardRead : Type 0
CardRead = (e : ℕ) (ps : List Pixel) → ((i : ℕ) → i < length ps → Bytes (pixel_at ps i))
    → pos e ≤ℤ most_closeness → length ps ≤ most_pixels → length (entries (pos e) ps) ≤ most_entries → CardReadBack e ps
