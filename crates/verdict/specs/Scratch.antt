-- What the code keeps about a stretch h while it tests the parts: the counts before each bin, and each bin's place. No public promise cites it. Assumes nothing.
use Rattle.std.specs.Prelude.{ℕ, ◌+◌, ◌^◌, ◌≤◌, ◌<◌, ◌≡◌, true, false, List, length, take, get_or, ℤ, ◌≤ℤ◌}
use Rattle.std.specs.Int.Signed.{lt_z, mag}
use Rattle.lists.specs.Lists.{total}
use Rattle.pooling.specs.declared.Block.{Block}
use Rattle.pooling.specs.declared.Place.{Place}
use Rattle.pooling.specs.Blocks.{Direction, blocks}
use Rattle.pooling.specs.Limits.{Small}
use Rattle.verdict.specs.declared.parts.Turn.{Turn}
use Rattle.verdict.specs.declared.parts.Turn.TheVariants.{WithinBlocks, AcrossBlocks}
use Rattle.verdict.specs.Test.{place_of, part_weight}

-- the list `before` holds the sum of the bins before each bin, and in the place after the last bin the sum of all
abbrev pub RunningTotals : List ℕ → List ℕ → Type 0
RunningTotals h before = (i : ℕ) → i ≤ length h → get_or before i 0 ≡ total (take i h)

-- what the list of places says of bin i
abbrev pub place_held : List Place → ℕ → Place
place_held ps i = get_or ps i (record { start = 0; block = record { sum = 0; len = 0 } })

-- the first bin of its block
abbrev pub start_of : List Place → ℕ → ℕ
start_of ps i = (place_held ps i).start

-- the list holds each bin's place
abbrev pub PlacesHeld : Direction → List ℕ → List Place → Type 0
PlacesHeld w h ps = (i : ℕ) → i < length h → place_held ps i ≡ place_of (blocks w h) i

-- bin i lies at the place p, bin j at a later place q
pub record Across (h : List ℕ) (p q : Place) (i j : ℕ) : Type 0 where
  pub first : i < p.start + p.block.len
  pub apart : p.start + p.block.len ≤ q.start
  pub last : (q.start ≤ j) × (j < q.start + q.block.len)
  pub inside : q.start + q.block.len ≤ length h
  pub sums : (p.block.sum ≤ total h) × (q.block.sum ≤ total h)

pub record Scratch (w : Direction) (h before : List ℕ) (ps : List Place) : Type 0 where
  pub small : Small h
  pub running : RunningTotals h before
  pub places : PlacesHeld w h ps

-- a cost that matters only if it is below the cap: the result is the cost if that is below the cap, else it is the cap or more
pub record Capped (cap c r : ℤ) : Type 0 where
  pub below : lt_z c cap ≡ true → r ≡ c
  pub above : lt_z c cap ≡ false → cap ≤ℤ r
  pub small : mag r < 2 ^ 62

-- r is the weight of a part
pub record Attained (h : List ℕ) (bs : List Block) (r : ℤ) : Type 0 where
  pub first : ℕ
  pub last : ℕ
  pub ends : (first ≤ last) × (last < length h)
  pub weight : r ≡ part_weight h bs first last

-- the best weight of the parts visited: some part has it, and as long as it is below the limit, no visited part has a larger one
pub record BestOf (h : List ℕ) (bs : List Block) (limit : ℤ) (visited : ℕ → ℕ → Type 0) (r : ℤ) : Type 0 where
  pub attained : Attained h bs r
  pub bounds : lt_z r limit ≡ true → (i j : ℕ) → visited i j → part_weight h bs i j ≤ℤ r

-- the parts from bin i to bin j that end at `last` and begin from `first` up to, but not including, `end`
abbrev pub EndingAt : ℕ → ℕ → ℕ → ℕ → ℕ → Type 0
EndingAt last first end i j = (j ≡ last) × (first ≤ i) × (i < end)

-- of the parts that end at bin j, whose block begins at `start`, a turn visits those that begin from first_of up to, but not including, end_of: within that block, or before it
abbrev pub first_of : Turn → ℕ → ℕ
first_of WithinBlocks start = start
first_of AcrossBlocks start = 0

abbrev pub end_of : Turn → ℕ → ℕ → ℕ
end_of WithinBlocks start j = j + 1
end_of AcrossBlocks start j = start

-- the parts that a turn visits, among those that end before bin n
abbrev pub Visits : Turn → List Place → ℕ → ℕ → ℕ → Type 0
Visits turn ps n i j = (j < n) × (first_of turn (start_of ps j) ≤ i) × (i < end_of turn (start_of ps j) j)

-- every part
abbrev pub Part : List ℕ → ℕ → ℕ → Type 0
Part h i j = (i ≤ j) × (j < length h)
