-- The rows of the sample tables, and what each says. Assumes nothing.
use Rattle.std.specs.Prelude.{ℕ, ◌≡◌, Bool, List, ◌∷◌, ◌++◌, map, ℤ, pos, neg_ℤ, length, replicate}
use Rattle.lists.specs.Lists.{numbers, first_that, maybe}
use Rattle.pixel.specs.declared.Pixel.{Pixel}
use Rattle.pixel.specs.declared.Measures.{Measures}
use Rattle.pixel.specs.Colour.{chroma_squared, measures_of}
use Rattle.logarithm.specs.Log.{lg}
use Rattle.pooling.specs.declared.Block.{Block}
use Rattle.pooling.specs.Blocks.{Direction, blocks, fitted}
use Rattle.verdict.specs.declared.Mass.{Mass}
use Rattle.verdict.specs.declared.Verdict.{Verdict}
use Rattle.verdict.specs.Test.{Closeness, verdict_of, fitted_mass}
use Rattle.segmentation.specs.Segments.{Segment, in_mode}
use Rattle.segmentation.specs.Joining.{line_modes, line_separators}
use Rattle.segmentation.specs.Ring.{ring_modes, in_ring_mode}
use Rattle.joinlog.specs.JoinLog.{line_log, same_numbers}
use Rattle.listing.specs.Listing.{ring_separators}
use Rattle.grounds.specs.Grounds.{verdict_number, widen_number}
use Rattle.kistrovu.specs.Answers.{widened_list}

pub data Sample : Type 0 where
  -- R, G, B; then Q, or the four measures
  chroma : (red green blue q : ℕ) → Sample
  measures : (red green blue intensity saturation hue : ℕ) (grey : Bool) → Sample
  -- x, and its logarithm in units
  logarithm : (x units : ℕ) → Sample
  fit : Direction → (bins : List ℕ) → (blocks : List Block) → Sample
  -- the fitted mass A/B of the part from bin i to bin j
  mass : Direction → (bins : List ℕ) → (i j a b : ℕ) → Sample
  verdict : Closeness → Direction → (bins : List ℕ) → (cost : ℤ) (rejected : Bool) → Sample
  -- the number of a verdict call
  asked : Closeness → (bins : List ℕ) → (number : ℕ) → Sample
  -- the separators of a line; its modes, each with its peak
  line : Closeness → (bins : List ℕ) → (separators : List ℕ) → Sample
  modes : Closeness → (bins : List ℕ) → List Segment → Sample
  -- whether bin b lies in mode m of a line
  in_line : Closeness → (bins : List ℕ) → (m b : ℕ) → Bool → Sample
  -- the log of a line; whether a log from elsewhere is that of a line
  joins : Closeness → (bins : List ℕ) → (log : List ℤ) → Sample
  replay : Closeness → (bins : List ℕ) → (log : List ℤ) → Bool → Sample
  -- the modes of a ring, each with its peak, by places from the opening on
  round : Closeness → (bins : List ℕ) → List Segment → Sample
  -- the separators of a ring as they are listed, and each bin's mode
  ring : Closeness → (bins : List ℕ) → (separators : List ℕ) → (modes : List ℕ) → Sample
  -- labels of one byte, widened into a lent list: the number, and the list as it is left
  widen : (narrow list : List ℕ) → (number : ℕ) → (left : List ℕ) → Sample

-- so many bins of 1,000, one of 999, and so many of 1,000: two segments, hardly apart
abbrev pub dip : ℕ → ℕ → List ℕ
dip before after = replicate before 1000 ++ 999 ∷ replicate after 1000

-- minus n, for a closeness or a cost
abbrev pub minus : ℕ → ℤ
minus n = neg_ℤ (pos n)

-- the four numbers of a record, before those of others
abbrev pub fall : ℕ → ℕ → ℤ → List ℤ → List ℤ
fall first length cost log = pos first ∷ pos length ∷ pos 0 ∷ cost ∷ log

abbrev pub rise : ℕ → ℕ → ℤ → List ℤ → List ℤ
rise first length cost log = pos first ∷ pos length ∷ pos 1 ∷ cost ∷ log

abbrev pub rgb : ℕ → ℕ → ℕ → Pixel
rgb r g b = record { red = r; green = g; blue = b }

abbrev pub block : ℕ → ℕ → Block
block s n = record { sum = s; len = n }

abbrev pub mode : ℕ → ℕ → ℕ → Segment
mode s p e = record { start = s; peak = p; end = e }

-- the first of n modes that bin b of the ring lies in
abbrev pub first_mode : Closeness → List ℕ → ℕ → ℕ → ℕ
first_mode e h n b = maybe n (λ (m : ℕ). m) (first_that (λ m. in_ring_mode e h m b) (numbers 0 n))

-- what a row is about
pub data Result : Type 0 where
  number : ℕ → Result
  truth : Bool → Result
  places : List ℕ → Result
  measured : Measures → Result
  fractions : List Block → Result
  fraction : Mass → Result
  judged : Verdict → Result
  segments : List Segment → Result
  signed : List ℤ → Result
  -- the separators of a ring, and each bin's mode
  numbered : List ℕ → List ℕ → Result
  -- the number of a call, and a list as it is left
  answered : ℕ → List ℕ → Result

-- what the definitions make of a row
abbrev pub computed : Sample → Result
computed (chroma r g b q) = number (chroma_squared (rgb r g b))
computed (measures r g b i s h is) = measured (measures_of (rgb r g b))
computed (logarithm x units) = number (lg x)
computed (fit w h bs) = fractions (fitted w h)
computed (mass w h i j a b) = fraction (fitted_mass h (blocks w h) i j)
computed (verdict e w h c is) = judged (verdict_of e w h)
computed (asked e h n) = number (verdict_number e h)
computed (line e h separators) = places (line_separators e h)
computed (modes e h ss) = segments (line_modes e h)
computed (in_line e h m b is) = truth (in_mode (line_modes e h) m b)
computed (joins e h log) = signed (line_log e h)
computed (replay e h log is) = truth (same_numbers log (line_log e h))
computed (round e h ss) = segments (ring_modes e h)
computed (ring e h separators ms) =
    numbered (ring_separators e h) (map (λ b. first_mode e h (length (ring_modes e h)) b) (numbers 0 (length h)))
computed (widen narrow list n left) = answered (widen_number narrow (length list)) (widened_list narrow list)

-- what the row says
abbrev pub stated : Sample → Result
stated (chroma r g b q) = number q
stated (measures r g b i s h is) = measured (record { intensity = i; saturation = s; hue = h; grey = is })
stated (logarithm x units) = number units
stated (fit w h bs) = fractions bs
stated (mass w h i j a b) = fraction (record { num = a; den = b })
stated (verdict e w h c is) = judged (record { cost = c; rejected = is })
stated (asked e h n) = number n
stated (line e h separators) = places separators
stated (modes e h ss) = segments ss
stated (in_line e h m b is) = truth is
stated (joins e h log) = signed log
stated (replay e h log is) = truth is
stated (round e h ss) = segments ss
stated (ring e h separators ms) = numbered separators ms
stated (widen narrow list n left) = answered n left

-- every row of a table holds
abbrev pub AllHold : List Sample → Type 0
AllHold table = map computed table ≡ map stated table
