-- How the code holds blocks while it pools: as a stack, in the last of the places that it is lent. No public promise cites it. Assumes nothing.
--   stack_of         the blocks that the places from one on hold, in the order of the bins
--   HeldFrom         they are those of the bins from one bin to the last
--   sum_in, bins_in  the sum of all its blocks, and how many bins they have; bounds on both keep the code's numbers small
use Rattle.std.specs.Prelude.{◌≡◌, List, [], ◌∷◌, ℕ, ◌+◌, map, drop}
use Rattle.pooling.specs.Blocks.{Block, Place, Direction, blocks}

-- the blocks in the places from `top` on, in the order of the bins: the first block is on top, in the first of these places
abbrev pub stack_of : List Place → ℕ → List Block
stack_of places top = map (λ (p : Place). p.block) (drop top places)

-- P2: the blocks held, each with its sum and length, are those of the bins from bin i to the last: what the step that takes bin i leaves
abbrev pub HeldFrom : Direction → List ℕ → ℕ → List Block → Type 0
HeldFrom w h i bs = bs ≡ blocks w (drop i h)

unfoldable pub sum_in : List Block → ℕ
sum_in [] = 0
sum_in (b ∷ bs) = b.sum + sum_in bs

unfoldable pub bins_in : List Block → ℕ
bins_in [] = 0
bins_in (b ∷ bs) = b.len + bins_in bs
