-- The grounds as the code hands them back, and their numbers. No public promise cites it. Assumes nothing.
use Rattle.std.specs.Prelude.{ℕ, Result, Ok, Err}
use Rattle.swatch.specs.declared.Unread.{Unread}
use Rattle.swatch.specs.declared.Unread.TheVariants.{Header as UnreadHeader, Size as UnreadSize, Lines as UnreadLines}
use Rattle.grounds.specs.declared.Ground.{Ground}
use Rattle.grounds.specs.declared.Ground.TheVariants.{Header, Size, Lines, Bytes, Pixels, Bins, Counts, Closeness, Labels, Places, Entries, Log}

-- G1 to G11 and G20
abbrev pub ground_number : Ground → ℕ
ground_number Header = 1
ground_number Size = 2
ground_number Lines = 3
ground_number Bytes = 4
ground_number Pixels = 5
ground_number Bins = 6
ground_number Counts = 7
ground_number Closeness = 8
ground_number Labels = 9
ground_number Places = 10
ground_number Entries = 11
ground_number Log = 20

-- A2: the number of an answer; 0 if no ground holds
abbrev pub number_of : {T : Type 0} → Result T Ground → ℕ
number_of (Ok x) = 0
number_of (Err why) = ground_number why

-- G1 to G3: why a text is no swatch
abbrev pub ground_of : Unread → Ground
ground_of UnreadHeader = Header
ground_of UnreadSize = Size
ground_of UnreadLines = Lines
