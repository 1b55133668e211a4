-- Splitting a range of pixel numbers level by level. No public promise cites it. Assumes nothing.
--   left_of                how many levels are left where this one comes next
--   level_at, levels_left  with so many levels left: the next one; all of them
--   Leaf                   an entry's code and the numbers of its pixels
--   leaves, walked         what splitting a range gives, and walking the ranges of its modes
--   Split, Kept            how the code holds it
--   Divisible, Walkable    what splitting a range and walking its modes ask for
use Rattle.std.specs.Prelude.{ℕ, Option, None, Some, zero, suc, ◌+◌, ◌*◌, ◌^◌, ◌<◌, ◌≤◌, ◌≡◌, false, length, take, drop, get_or}
use mathlib.Core.List.{List, [], ◌∷◌, ◌++◌, map, flat_map}
use Rattle.std.proofs.lemmas.List.Edits.{sets}
use Rattle.lists.specs.Lists.{total, numbers, first_index, filter}
use Rattle.pixel.specs.declared.Pixel.{Pixel}
use Rattle.pixel.specs.Colour.{is_grey}
use Rattle.verdict.specs.Test.{Closeness}
use Rattle.palette.specs.Levels.{Level, hue, saturation, intensity, bin_count, bin_of, modes_at, lies_in}
use Rattle.palette.specs.Cards.{Branch, pixels_of}
use Rattle.palette.specs.Sound.{pixel_at, most_pixels}
use Rattle.dividing.specs.Sorted.{tally, marked, sorted_by}
use Rattle.dividing.specs.Keeping.{codes_of, sizes_of}
use Rattle.dividing.specs.declared.Node.{Node}
use Rattle.dividing.specs.declared.keeping.CodedRange.{CodedRange}
use Rattle.dividing.specs.declared.levels.Level as next
use Rattle.dividing.specs.declared.levels.Level.TheVariants as variant
pub use Rattle.dividing.specs.Sorted.{mode_base, code_count}

abbrev pub left_of : Option next.Level → ℕ
left_of None = 0
left_of (Some variant.Intensity) = 1
left_of (Some variant.Saturation) = 2
left_of (Some variant.Hue) = 3

abbrev pub level_at : ℕ → Level
level_at zero = intensity
level_at (suc zero) = intensity
level_at (suc (suc zero)) = saturation
level_at (suc (suc (suc n))) = hue

-- one level left: grey_levels; three: colour_levels
abbrev pub levels_left : ℕ → List Level
levels_left zero = []
levels_left (suc n) = level_at (suc n) ∷ levels_left n

-- the mode that bin b lies in
unfoldable pub mode_of : Closeness → Level → List ℕ → ℕ → ℕ
mode_of e l h b = first_index (λ m. lies_in e l h m b) (numbers 0 (length (modes_at e l h)))

pub record Leaf : Type 0 where
  pub code : ℕ
  pub pixels : List ℕ

-- each number is that of a pixel, whose bytes stand three to a pixel
abbrev pub AllIn : List ℕ → List ℕ → Type 0
AllIn xs bytes = (i : ℕ) → i < length xs → 3 * get_or xs i 0 + 2 < length bytes

-- each is the number of such a pixel
abbrev pub AllSuch : (Pixel → Type 0) → List ℕ → List ℕ → Type 0
AllSuch P xs bytes = (i : ℕ) → i < length xs → P (pixel_at (pixels_of bytes) (get_or xs i 0))

-- each is a coloured pixel's
abbrev pub AllColours : List ℕ → List ℕ → Type 0
AllColours xs bytes = AllSuch (λ p. is_grey p ≡ false) xs bytes

-- the bin of each of the pixels that are given by their numbers
unfoldable pub bins_of : List Pixel → Level → List ℕ → List ℕ
bins_of ps l xs = map (λ i. bin_of l (pixel_at ps i)) xs

-- the bins of a range, kept and counted
pub record BinsCounted (ps : List Pixel) (l : Level) (xs keys h : List ℕ) : Type 0 where
  pub kept : keys ≡ bins_of ps l xs
  pub counted : h ≡ tally (bin_count l) keys

-- of pixels with these bins: how many modes their histogram has, and the mode of each
unfoldable pub modes_of : Closeness → Level → List ℕ → ℕ
modes_of e l keys = length (modes_at e l (tally (bin_count l) keys))

unfoldable pub marks_of : Closeness → Level → List ℕ → List ℕ
marks_of e l keys = map (mode_of e l (tally (bin_count l) keys)) keys

-- one level of a range sorted: how many modes there are and how many pixels each has, and the numbers of each mode's pixels in turn
pub record LevelSorted (e : Closeness) (l : Level) (keys xs sizes sorted : List ℕ) (n : ℕ) : Type 0 where
  pub modes : n ≡ modes_of e l keys
  pub counts : sizes ≡ tally mode_base (marks_of e l keys)
  pub order : sorted ≡ sorted_by mode_base (marks_of e l keys) xs

abbrev pub RangeSorted : (e : Closeness) (ps : List Pixel) (l : Level) (xs sizes sorted : List ℕ) (n : ℕ) → Type 0
RangeSorted e ps l xs sizes sorted n = LevelSorted e l (bins_of ps l xs) xs sizes sorted n

module _ (e : Closeness) (ps : List Pixel) where
  -- a level is split, and each of its modes is split at the next level; a code has kind and mode numbers as digits
  unfoldable pub leaves : ℕ → ℕ → List ℕ → List Leaf
  leaves zero code xs = record { code = code; pixels = xs } ∷ []
  leaves (suc left) code xs =
      let l = level_at (suc left) in
      let keys = bins_of ps l xs in
      flat_map (λ m. leaves left (code * mode_base + m) (marked m (marks_of e l keys) xs)) (numbers 0 (modes_of e l keys))

  -- ranges of the given sizes, one after the other, each split at the levels left
  unfoldable pub walked : ℕ → ℕ → List ℕ → List ℕ → List Leaf
  walked left code [] xs = []
  walked left code (s ∷ ss) xs = leaves left code (take s xs) ++ walked left (suc code) ss (drop s xs)

-- the two lists change places from level to level: where the sorted numbers are at the end
abbrev pub resting : ℕ → List ℕ → List ℕ → List ℕ
resting zero a b = a
resting (suc n) a b = resting n b a

-- the entries found are added from place `found` on, as far as there is room, and the numbers of their pixels stand in their order
pub record Split (ls : List Leaf) (found : ℕ) (codes sizes codes' sizes' sorted : List ℕ) (found' : ℕ) : Type 0 where
  pub count : found' ≡ found + length ls
  pub coded : codes' ≡ sets codes found (map (λ (l : Leaf). l.code) ls)
  pub sized : sizes' ≡ sets sizes found (map (λ (l : Leaf). length l.pixels) ls)
  pub order : sorted ≡ flat_map (λ (l : Leaf). l.pixels) ls

-- the same, of the entries as they are kept
abbrev pub Kept : (ls : List Leaf) (found : ℕ) (before after : List CodedRange) (sorted : List ℕ) (found' : ℕ) → Type 0
Kept ls found before after sorted found' = Split ls found (codes_of before) (sizes_of before) (codes_of after) (sizes_of after) sorted found'

-- a range can be split at the levels left: however many entries it gives after those found, their count and codes stay small; each number is a pixel's, a coloured one's where
-- hue comes next; and `other` and `keys` have room for as many
pub record Divisible (node : Node) (bytes order other keys : List ℕ) (found : ℕ) : Type 0 where
  pub room : found + mode_base ^ left_of node.next ≤ 2 ^ 32
  pub codes : (node.code + 1) * mode_base ^ left_of node.next ≤ code_count
  pub lists : length order ≡ length other
  pub keyed : length order ≤ length keys
  pub few : length order ≤ most_pixels
  pub inside : AllIn order bytes
  pub coloured : left_of node.next ≡ 3 → AllColours order bytes

-- the modes of a level, of the sizes `parts`, can be split one after the other
pub record Walkable (node : Node) (parts bytes order other keys : List ℕ) (found : ℕ) : Type 0 where
  pub left : left_of node.next ≤ 2
  pub room : found + length parts * mode_base ^ left_of node.next ≤ 2 ^ 32
  pub codes : (node.code + length parts) * mode_base ^ left_of node.next ≤ code_count
  pub lists : length order ≡ length other
  pub keyed : length order ≤ length keys
  pub few : length order ≤ most_pixels
  pub inside : AllIn order bytes
  pub whole : total parts ≡ length order

-- ---- against the card as it is defined
-- the numbers of a branch's pixels
unfoldable pub numbers_of : List Pixel → Branch → List ℕ
numbers_of ps b = filter (λ i. b.has (pixel_at ps i)) (numbers 0 (length ps))

abbrev pub code_of : Branch → ℕ
code_of b = ((b.kind * mode_base + b.hue) * mode_base + b.saturation) * mode_base + b.intensity

abbrev pub leaf_of : List Pixel → Branch → Leaf
leaf_of ps b = record { code = code_of b; pixels = numbers_of ps b }
