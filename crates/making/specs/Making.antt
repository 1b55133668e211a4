-- How the code makes entries and labels from the numbers of the pixels, entry by entry. No public promise cites it. Assumes nothing.
use Rattle.std.specs.Prelude.{ℕ, zero, suc, ◌*◌, ◌/◌, ◌%◌, ◌≤◌, ◌<◌, ◌≡◌, Bool, cond, leb, length, take, drop, get_or, set}
use mathlib.Core.List.{List, [], ◌∷◌, map, flat_map}
use Rattle.lists.specs.Lists.{total, numbers, padded}
use Rattle.pixel.specs.declared.Pixel.{Pixel}
use Rattle.verdict.specs.Test.{Closeness}
use Rattle.palette.specs.declared.Entry.{Entry}
use Rattle.palette.specs.Cards.{mean_by, branches, entries, labels, most_entries, no_entry}
use Rattle.palette.specs.Sound.{pixel_at, most_pixels}
use Rattle.dividing.specs.Sorted.{code_count, mode_base, AllBelow}
use Rattle.dividing.specs.Splitting.{numbers_of}
use Rattle.making.specs.declared.CardEntries.{CardEntries}
use Rattle.making.specs.declared.Sums.{Sums}

-- the numbers of entry k: so many, from where those of the entries before it end
abbrev pub range_of : List ℕ → List ℕ → ℕ → List ℕ
range_of sizes xs k = take (get_or sizes k 0) (drop (total (take k sizes)) xs)

-- the sum of one figure of the pixels that are given by their numbers, and of all three channels
unfoldable pub sum_of : (Pixel → ℕ) → List Pixel → List ℕ → ℕ
sum_of f ps xs = total (map (λ i. f (pixel_at ps i)) xs)

abbrev pub sums_of : List Pixel → List ℕ → Sums
sums_of ps xs = record { red = sum_of (λ p. p.red) ps xs; green = sum_of (λ p. p.green) ps xs; blue = sum_of (λ p. p.blue) ps xs }

-- each channel of a pixel is a byte
abbrev pub largest_byte : ℕ
largest_byte = 255

-- the sums of n pixels are no larger than n bytes come to
pub record SumsFew (sums : Sums) (n : ℕ) : Type 0 where
  pub red : sums.red ≤ largest_byte * n
  pub green : sums.green ≤ largest_byte * n
  pub blue : sums.blue ≤ largest_byte * n

-- each of the places xs gets the label k
unfoldable pub labelled : ℕ → List ℕ → List ℕ → List ℕ
labelled k [] lent = lent
labelled k (x ∷ xs) lent = labelled k xs (set lent x k)

-- an entry from its code and its figures
unfoldable pub entry_by : ℕ → ℕ → Sums → Entry
entry_by code count sums = record {
  kind = code / mode_base / mode_base / mode_base;
  hue = code / mode_base / mode_base % mode_base;
  saturation = code / mode_base % mode_base;
  intensity = code % mode_base;
  red = mean_by sums.red count;
  green = mean_by sums.green count;
  blue = mean_by sums.blue count;
  count = count;
}

-- an entry for each size, and the labels that the first of them give
unfoldable pub entries_by : (codes sizes xs : List ℕ) → List Pixel → List Entry
entries_by codes sizes xs ps = map (λ k. entry_by (get_or codes k 0) (get_or sizes k 0) (sums_of ps (range_of sizes xs k))) (numbers 0 (length sizes))

unfoldable pub labels_by : (sizes xs : List ℕ) → ℕ → List ℕ → List ℕ
labels_by sizes xs zero lent = lent
labels_by sizes xs (suc k) lent = labelled k (range_of sizes xs k) (labels_by sizes xs k lent)

-- ranges of these sizes, as many as a card may hold, one after the other, of the numbers of so many pixels
pub record RangesLaid (xs sizes : List ℕ) (pixels : ℕ) : Type 0 where
  pub few : length sizes ≤ most_entries
  pub whole : total sizes ≤ length xs
  pub inside : (i : ℕ) → i < total sizes → get_or xs i 0 < pixels

-- what making the entries relies on
pub record FiguresLaid (bytes xs codes sizes : List ℕ) : Type 0 where
  pub ranges : RangesLaid xs sizes (length bytes / 3)
  pub many : total sizes ≤ most_pixels
  pub coded : length codes ≡ length sizes
  pub small : AllBelow codes code_count
  pub filled : (k : ℕ) → k < length sizes → 0 < get_or sizes k 0

-- how many of n entries a card holds: none where they are too many
unfoldable pub held_of : ℕ → ℕ
held_of n = cond (leb n most_entries) n 0

-- a figure of each of n entries, as far as a card holds them
abbrev pub held_figures : ℕ → List ℕ → List ℕ
held_figures n figures = take (held_of n) figures

-- whether a card may hold all entries
abbrev pub fits : Closeness → List Pixel → Bool
fits e ps = leb (length (entries e ps)) most_entries

unfoldable pub card_entries : Closeness → List Pixel → CardEntries
card_entries e ps = record { total = length (entries e ps); entries = padded most_entries no_entry (cond (fits e ps) (entries e ps) []) }

-- the labels as they are left
unfoldable pub labels_left : Closeness → List Pixel → List ℕ → List ℕ
labels_left e ps lent = cond (fits e ps) (labels e ps) lent

-- how the pixels are left: their numbers entry by entry, and how many each entry has, where a card may hold so many entries
pub record PixelsLaid (e : Closeness) (ps : List Pixel) (order sizes : List ℕ) : Type 0 where
  pub numbered : take (length ps) order ≡ flat_map (numbers_of ps) (branches e ps)
  pub counted : length (branches e ps) ≤ most_entries → take (length (branches e ps)) sizes ≡ map (λ b. length (numbers_of ps b)) (branches e ps)
