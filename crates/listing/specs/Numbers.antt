-- How the code numbers the places of a ring of so many bins, counted from its opening on. No public promise cites it. Assumes nothing.
use Rattle.std.specs.Prelude.{ℕ, ◌+◌, ◌%◌, Bool, List, ◌++◌, map, leb, take, drop}

-- the bin at place s
abbrev pub bin_at_place : (opening bins s : ℕ) → ℕ
bin_at_place opening bins s = (opening + s) % bins

-- place s lies past the last bin
abbrev pub past_last : (opening bins s : ℕ) → Bool
past_last opening bins s = leb bins (opening + s)

-- the bins at these places: first those from number `from` on, then those before it
abbrev pub bins_from : (opening bins from : ℕ) → List ℕ → List ℕ
bins_from opening bins from places = map (bin_at_place opening bins) (drop from places ++ take from places)
