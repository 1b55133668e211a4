-- The card of a cloth, its palette: rules C1 to C8. Assumes nothing.
--   Branch              a kind, modes chosen level by level, and the pixels whose bins lie in them
--   members             the pixels of the image that belong to it; histogram_in, modes_found: their histogram, and how many modes it has
--   child, divide       the branch of one more mode; the branches of all modes at the levels left
--   branches, entries   the card, with a branch for each entry; labels: each pixel's entry
use Rattle.std.specs.Prelude.{ℕ, ◌+◌, ◌*◌, ◌/◌, Bool, cond, not, ◌&&◌, eqb, length}
use mathlib.Core.List.{List, [], ◌∷◌, ◌++◌, map, flat_map}
use Rattle.lists.specs.Lists.{total, numbers, filter, first_index}
use Rattle.pixel.specs.declared.Pixel.{Pixel}
use Rattle.pixel.specs.Colour.{is_grey}
use Rattle.verdict.specs.Test.{Closeness}
use Rattle.palette.specs.Levels.{Level, hue, saturation, intensity, grey_levels, colour_levels, bin_of, histogram, modes_at, lies_in}
use Rattle.palette.specs.declared.Entry.{Entry}

pub record Branch : Type 0 where
  pub kind : ℕ
  pub hue : ℕ
  pub saturation : ℕ
  pub intensity : ℕ
  pub has : Pixel → Bool

-- C5: kind 0 is grey, 1 is colour. No mode is chosen yet; the hue and saturation modes of a grey stay 0
abbrev pub all_greys : Branch
all_greys = record { kind = 0; hue = 0; saturation = 0; intensity = 0; has = is_grey }

abbrev pub all_colours : Branch
all_colours = record { kind = 1; hue = 0; saturation = 0; intensity = 0; has = λ p. not (is_grey p) }

unfoldable pub members : List Pixel → Branch → List Pixel
members ps b = filter b.has ps

-- C2: the histogram of a level, of the pixels of the branch only
unfoldable pub histogram_in : List Pixel → Level → Branch → List ℕ
histogram_in ps l b = histogram l (members ps b)

-- C6: a mean from a sum and a count, with halves rounded up
unfoldable pub mean_by : ℕ → ℕ → ℕ
mean_by sum count = (2 * sum + count) / (2 * count)

unfoldable pub mean_of : List ℕ → ℕ
mean_of xs = mean_by (total xs) (length xs)

-- C5: the entry of a branch
unfoldable pub entry_of : List Pixel → Branch → Entry
entry_of ps b =
    let own = members ps b in
    record {
      kind = b.kind;
      hue = b.hue;
      saturation = b.saturation;
      intensity = b.intensity;
      red = mean_of (map (λ (p : Pixel). p.red) own);
      green = mean_of (map (λ (p : Pixel). p.green) own);
      blue = mean_of (map (λ (p : Pixel). p.blue) own);
      count = length own;
    }

module _ (e : Closeness) (ps : List Pixel) where
  unfoldable pub modes_found : Level → Branch → ℕ
  modes_found l b = length (modes_at e l (histogram_in ps l b))

  -- C7: the pixel belongs to branch b, and its bin lies in mode m of that branch's histogram
  unfoldable pub in_child : Level → Branch → ℕ → Pixel → Bool
  in_child l b m p = b.has p && lies_in e l (histogram_in ps l b) m (bin_of l p)

  unfoldable pub child : Level → Branch → ℕ → Branch
  child hue b m = record { kind = b.kind; hue = m; saturation = b.saturation; intensity = b.intensity; has = in_child hue b m }
  child saturation b m = record { kind = b.kind; hue = b.hue; saturation = m; intensity = b.intensity; has = in_child saturation b m }
  child intensity b m = record { kind = b.kind; hue = b.hue; saturation = b.saturation; intensity = m; has = in_child intensity b m }

  -- C1: the branches of all modes at the levels left, in the order of the modes
  unfoldable pub divide : List Level → Branch → List Branch
  divide [] b = b ∷ []
  divide (l ∷ ls) b = flat_map (λ m. divide ls (child l b m)) (numbers 0 (modes_found l b))

  -- C3: a kind without pixels has no branches
  unfoldable pub divide_some : List Level → Branch → List Branch
  divide_some ls b = cond (eqb (length (members ps b)) 0) [] (divide ls b)

  -- C4: the greys, then the colours
  unfoldable pub branches : List Branch
  branches = divide_some grey_levels all_greys ++ divide_some colour_levels all_colours

  -- C4: the card, with no limit on its entries
  unfoldable pub entries : List Entry
  entries = map (entry_of ps) branches

  -- C8: a pixel's label is the number of its entry
  unfoldable pub label : Pixel → ℕ
  label p = first_index (λ (b : Branch). b.has p) branches

  unfoldable pub labels : List ℕ
  labels = map label ps

-- G11: the most entries that a card may hold
unfoldable pub most_entries : ℕ
most_entries = 1000

abbrev pub no_entry : Entry
no_entry = record { kind = 0; hue = 0; saturation = 0; intensity = 0; red = 0; green = 0; blue = 0; count = 0 }

-- pixels from their bytes, three to a pixel; bytes left over are dropped
unfoldable pub pixels_of : List ℕ → List Pixel
pixels_of [] = []
pixels_of (r ∷ []) = []
pixels_of (r ∷ g ∷ []) = []
pixels_of (r ∷ g ∷ b ∷ rest) = record { red = r; green = g; blue = b } ∷ pixels_of rest
