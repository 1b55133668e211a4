-- What a fit is: the best monotone sequence of fractions for the counts, made of blocks of bins (rules P1, P3 and P5). Assumes nothing.
use Rattle.std.specs.Prelude.{◌≡◌, List, [], ◌∷◌, ◌++◌, map, reverse, ℕ, ◌*◌, ◌<◌, pos, length, get_or}
use Rattle.lists.specs.Lists.{total}
use Rattle.pooling.specs.Blocks.{Block, Direction, increasing, decreasing, blocks, spread, fitted, Strict}
use Rattle.pooling.specs.Fraction.{Fraction, ◌≈◌, Proper, Ordered, CommonDenominator, sum_of, error}

abbrev pub mean : Block → Fraction
mean b = record { num = pos b.sum; den = b.len }

-- P5: each bin's mean
abbrev pub means : List Block → List Fraction
means bs = map mean (spread bs)

abbrev pub at : List Fraction → ℕ → Fraction
at ys i = get_or ys i (record { num = pos 0; den = 1 })

-- P5: f is monotone and keeps the total of the counts h, and every monotone sequence y whose value differs from f's at some bin i is strictly farther from h.
-- P6: both are compared over a common denominator D, and any will do
pub record Best (w : Direction) (h : List ℕ) (f : List Fraction) : Type 0 where
  pub same_length : length f ≡ length h
  pub positive : Proper f
  pub monotone : Ordered w f
  pub same_total : (D : ℕ) → 0 < D → CommonDenominator D f → sum_of D f ≡ pos (total h * D)
  pub least_error : (y : List Fraction) → length y ≡ length h → Proper y → Ordered w y
      → (i : ℕ) → i < length h → ¬ (at f i ≈ at y i)
      → (D : ℕ) → 0 < D → CommonDenominator D f → CommonDenominator D y → error D h f < error D h y

-- P6: a denominator common to two sequences, by which their errors can be compared
pub record Comparable (f y : List Fraction) : Type 0 where
  pub denominator : ℕ
  pub positive : 0 < denominator
  pub left : CommonDenominator denominator f
  pub right : CommonDenominator denominator y

-- P6: any two sequences have one; proved in proofs/Unique
abbrev pub DenominatorExists : Type 0
DenominatorExists = (f y : List Fraction) → Proper f → Proper y → Comparable f y

-- P1: the bins, cut into rows that are not empty, each kept as its sum and length
pub data CutInto : List ℕ → List Block → Type 0 where
  empty : CutInto [] []
  first : (x : List ℕ) {h : List ℕ} {bs : List Block} → 0 < length x → CutInto h bs → CutInto (x ++ h) (record { sum = total x; len = length x } ∷ bs)

-- P5: what the blocks of a fit are
pub record Pooled (w : Direction) (h : List ℕ) : Type 0 where
  pub cut : CutInto h (blocks w h)
  pub strict : Strict w (blocks w h)
  pub best : Best w h (means (blocks w h))
  -- so the comparison in `best` is never vacuous
  pub comparable : (y : List Fraction) → Proper y → Comparable (means (blocks w h)) y

-- proved in proofs/Always, as are the two below
abbrev pub AlwaysPooled : Type 0
AlwaysPooled = (w : Direction) (h : List ℕ) → Pooled w h

-- no other blocks will do: if the bins are cut into blocks whose means are strict and are the best sequence, these are the blocks of the fit
abbrev pub BlocksUnique : Type 0
BlocksUnique = (w : Direction) (h : List ℕ) (bs : List Block) → CutInto h bs → Strict w bs → Best w h (means bs) → bs ≡ blocks w h

-- P3: the blocks of a decreasing fit, and each bin's block, are those of the increasing fit of the reversed stretch, in reverse
pub record Mirrored (h : List ℕ) : Type 0 where
  pub blocks_mirrored : blocks decreasing h ≡ reverse (blocks increasing (reverse h))
  pub fit_mirrored : fitted decreasing h ≡ reverse (fitted increasing (reverse h))

abbrev pub MirrorImage : Type 0
MirrorImage = (h : List ℕ) → Mirrored h
