-- The stored sheet of logarithms: rule L5. Assumes nothing.
use Rattle.std.specs.Prelude.{ℕ, ◌-◌, ◌/◌, ◌^◌, ◌≤◌, ◌≡◌, Bool, List, map, leb, get_or}
use Rattle.std.specs.Int.Count.{count_trailing_zeros}
use Rattle.lists.specs.Lists.{numbers}
use Rattle.logarithm.specs.Log.{lg}

-- L5: how many numbers are on it
unfoldable pub sheet_size : ℕ
sheet_size = 1024

-- L5: the logarithms of 1 to 1,024, one after the other, as the rounds give them
unfoldable pub log_sheet : List ℕ
log_sheet = map lg (numbers 1 sheet_size)

-- L5: that of x is at place x - 1; proved in proofs/Stored
abbrev pub SheetPlaces : Type 0
SheetPlaces = (x : ℕ) → 1 ≤ x → x ≤ sheet_size → get_or log_sheet (x - 1) 0 ≡ lg x

-- L5: how often 2 divides x, and what is left of x then. x has 32 bits at most, so 64 of its digits are enough
abbrev pub twos_of : ℕ → ℕ
twos_of x = count_trailing_zeros 64 x

unfoldable pub odd_part : ℕ → ℕ
odd_part x = x / 2 ^ twos_of x

-- L5: the sheet gives the logarithm of x
unfoldable pub on_sheet : ℕ → Bool
on_sheet x = leb (odd_part x) sheet_size
