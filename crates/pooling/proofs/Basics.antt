-- What the laws of blocks share: the other direction, blocks that are not empty, equal blocks. Assumes nothing.
use mathlib.Core.Path.{◌≡◌}
use mathlib.Core.List.{List, [], ◌∷◌}
use Prim.Native.Nat.{◌<◌}
use Rattle.pooling.specs.Blocks.{Block, Direction, increasing, decreasing, Strict, StrictFrom}

abbrev pub turn : Direction → Direction
turn increasing = decreasing
turn decreasing = increasing

-- blocks that are not empty
abbrev pub Full : List Block → Type 0
Full [] = Unit {0}
Full (b ∷ bs) = (0 < b.len) × Full bs

pub strict-tail : (w : Direction) (b : Block) (bs : List Block) → StrictFrom w b bs → Strict w bs
strict-tail w b [] r = tt
strict-tail w b (c ∷ bs) r = r.1

pub block-eq : {a b : Block} → a.sum ≡ b.sum → a.len ≡ b.len → a ≡ b
block-eq p q = λ i. record { sum = p i; len = q i }
