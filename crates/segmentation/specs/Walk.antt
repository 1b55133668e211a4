-- How the code walks along a line to its first separators and peaks. No public promise cites it. Assumes nothing.
use Rattle.std.specs.Prelude.{ℕ, suc, ◌-◌, ◌≤◌, ◌<◌, ◌≡◌, Bool, cond, List, [], ◌∷◌, ltb, length, get_or, Option, None, Some}
use Rattle.segmentation.specs.Segments.{first_highest}

-- the bin where the counts last fell, if they fell and have not risen since. `fell` is that bin before the step to bin i; the step goes from a bin of x counts to one of y
unfoldable pub fell_after : (fell : Option ℕ) (i x y : ℕ) → Option ℕ
fell_after fell i x y = cond (ltb y x) (Some i) (cond (ltb x y) None fell)

-- the valley where the counts last fell, if they did and the next step that is not level goes up
unfoldable pub pending : (fell : Option ℕ) → Bool → List ℕ
pending None rises = []
pending (Some bin) rises = cond rises (bin ∷ []) []

-- n separators and the one after them are in order, within the line h
abbrev pub InLine : List ℕ → List ℕ → ℕ → Type 0
InLine h separators n = (m : ℕ) → m < n → (get_or separators m 0 ≤ get_or separators (suc m) 0) × (get_or separators (suc m) 0 < length h)

-- the peaks of the first n segments are held
abbrev pub PeaksHeld : List ℕ → List ℕ → List ℕ → ℕ → Type 0
PeaksHeld h separators peaks n = (m : ℕ) → m < n → get_or peaks m 0 ≡ first_highest h (get_or separators m 0) (get_or separators (suc m) 0 - get_or separators m 0)
