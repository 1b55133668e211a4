-- The blocks of an increasing or decreasing fit: rules P1 to P4. Assumes nothing.
--   blocks, fitted     the blocks of a stretch; each bin's block
--   places             each bin's block with the number of the block's first bin
--   steps_to, StepsTo  a strict step in the direction of the fit, as a test and as a statement; Strict: at every step
use Rattle.std.specs.Prelude.{Bool, true, false, cond, List, [], ◌∷◌, ◌++◌, ℕ, ◌+◌, ◌*◌, ◌<◌, ltb, replicate}
-- the types that the code shares. P1: a block has a sum and a length, which stand for its mean. A place is a bin's block with the number of the block's first bin
pub use Rattle.pooling.specs.declared.Block.{Block}
pub use Rattle.pooling.specs.declared.Place.{Place}

pub data Direction : Type 0 where
  increasing : Direction
  decreasing : Direction

-- A1: the direction that a call is given
abbrev pub direction : (rising : Bool) → Direction
direction true = increasing
direction false = decreasing

-- P1: the mean of a is strictly below the mean of b, as a test and as a statement
abbrev pub below : Block → Block → Bool
below a b = ltb (a.sum * b.len) (b.sum * a.len)

abbrev pub Below : Block → Block → Type 0
Below a b = a.sum * b.len < b.sum * a.len

-- P3: from a to b the mean changes strictly in the direction of the fit
abbrev pub steps_to : Direction → Block → Block → Bool
steps_to increasing a b = below a b
steps_to decreasing a b = below b a

abbrev pub StepsTo : Direction → Block → Block → Type 0
StepsTo increasing a b = Below a b
StepsTo decreasing a b = Below b a

abbrev pub merged : Block → Block → Block
merged a b = record { sum = a.sum + b.sum; len = a.len + b.len }

-- P2: a block is pushed onto the blocks after it, of which the first is on top. While the step from it to the top one is not strict, the two become one
unfoldable pub push : Direction → Block → List Block → List Block
push w b [] = b ∷ []
push w b (c ∷ bs) = cond (steps_to w b c) (b ∷ c ∷ bs) (push w (merged b c) bs)

-- P2: the blocks of the bins h, in their order. The bins are taken from the last to the first, each as a block of its own
unfoldable pub blocks : Direction → List ℕ → List Block
blocks w [] = []
blocks w (x ∷ h) = push w (record { sum = x; len = 1 }) (blocks w h)

-- each bin's block
abbrev pub spread : List Block → List Block
spread [] = []
spread (b ∷ bs) = replicate b.len b ++ spread bs

-- P4: what the fit hands back for each bin
unfoldable pub fitted : Direction → List ℕ → List Block
fitted w h = spread (blocks w h)

-- the place of each bin of these blocks; the first block begins at bin s
unfoldable pub places_from : ℕ → List Block → List Place
places_from s [] = []
places_from s (b ∷ bs) = replicate b.len (record { start = s; block = b }) ++ places_from (s + b.len) bs

unfoldable pub places : Direction → List ℕ → List Place
places w h = places_from 0 (blocks w h)

-- blocks whose means change strictly in the direction of the fit
abbrev pub StrictFrom : Direction → Block → List Block → Type 0
StrictFrom w b [] = Unit {0}
StrictFrom w b (c ∷ cs) = StepsTo w b c × StrictFrom w c cs

abbrev pub Strict : Direction → List Block → Type 0
Strict w [] = Unit {0}
Strict w (b ∷ bs) = StrictFrom w b bs
