-- D3 for a card. Assumes nothing.
--   counts_under         a pixel counts under an entry, by the entry's kind and mode numbers
--   HistogramSound       one histogram of the card; AllSound: this one and every one below it
--   OneEntry, SoundCard  D3 for one pixel; for the card
use Rattle.std.specs.Prelude.{ℕ, suc, ◌+◌, ◌*◌, ◌≤◌, ◌<◌, ◌≡◌, Bool, cond, List, [], ◌∷◌, map, eqb, length, get_or}
use Rattle.lists.specs.Lists.{total, count_if, ExactlyOne}
use Rattle.pixel.specs.declared.Pixel.{Pixel}
use Rattle.pixel.specs.Ranges.{Bytes}
use Rattle.verdict.specs.Test.{Closeness}
use Rattle.palette.specs.Levels.{Level, hue, saturation, intensity, grey_levels, colour_levels, FinishedAt}
use Rattle.palette.specs.Cards.{Branch, all_greys, all_colours, members, histogram_in, modes_found, child, labels, entries, no_entry, mean_of}
use Rattle.palette.specs.declared.Entry.{Entry}

abbrev pub pixel_at : List Pixel → ℕ → Pixel
pixel_at ps i = get_or ps i (record { red = 0; green = 0; blue = 0 })

abbrev pub entry_at : List Entry → ℕ → Entry
entry_at es n = get_or es n no_entry

module _ (e : Closeness) (ps : List Pixel) where
  -- C7: the branch of an entry, from its kind and its mode numbers
  unfoldable pub branch_of : Entry → Branch
  branch_of t =
      cond (eqb t.kind 0) (child e ps intensity all_greys t.intensity)
      (child e ps intensity (child e ps saturation (child e ps hue all_colours t.hue) t.saturation) t.intensity)

  -- C7: the pixel counts under the entry t
  unfoldable pub counts_under : Entry → Pixel → Bool
  counts_under t p = (branch_of t).has p

  pub record HistogramSound (l : Level) (b : Branch) : Type 0 where
    pub finished : FinishedAt e l (histogram_in ps l b)
    -- M10: each pixel counts once
    pub each_once : total (histogram_in ps l b) ≡ length (members ps b)

  -- the histogram of the first level that is left, and every histogram below each of its modes
  abbrev pub AllSound : List Level → Branch → Type 0
  AllSound [] b = Unit {0}
  AllSound (l ∷ ls) b = HistogramSound l b × ((m : ℕ) → m < modes_found e ps l b → AllSound ls (child e ps l b m))

  -- D3: the pixel at place i counts under exactly one entry and bears its number
  pub record OneEntry (i : ℕ) : Type 0 where
    pub one : ExactlyOne (length (entries e ps)) (λ n. counts_under (entry_at (entries e ps) n) (pixel_at ps i))
    pub label : get_or (labels e ps) i 0 ≡ one.number

  -- D3 for the pixels ps at closeness e
  pub record SoundCard : Type 0 where
    pub greys : 0 < length (members ps all_greys) → AllSound grey_levels all_greys
    pub colours : 0 < length (members ps all_colours) → AllSound colour_levels all_colours
    pub labelled : length (labels e ps) ≡ length ps
    pub pixels : (i : ℕ) → i < length ps → OneEntry i
    -- C8: the count of an entry is the number of pixels that bear it, and no entry is empty
    pub counts : (n : ℕ) → n < length (entries e ps) → (entry_at (entries e ps) n).count ≡ count_if (eqb n) (labels e ps)
    pub none_empty : (n : ℕ) → n < length (entries e ps) → 0 < (entry_at (entries e ps) n).count
    pub every_pixel : total (map (λ (t : Entry). t.count) (entries e ps)) ≡ length ps

-- G5: the most pixels that a call takes
unfoldable pub most_pixels : ℕ
most_pixels = 65536

-- proved in proofs/Always
abbrev pub AlwaysSound : Type 0
AlwaysSound = (e : Closeness) (ps : List Pixel) → length ps ≤ most_pixels → ((i : ℕ) → i < length ps → Bytes (pixel_at ps i)) → SoundCard e ps

-- C6: the mean is the whole number m with m - 1/2 ≤ total / n < m + 1/2. Proved in proofs/Mean
abbrev pub MeanHalvesUp : Type 0
MeanHalvesUp = (xs : List ℕ) → 0 < length xs
    → (2 * length xs * mean_of xs ≤ 2 * total xs + length xs) × (2 * total xs + length xs < 2 * length xs * suc (mean_of xs))
