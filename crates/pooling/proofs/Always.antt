-- The statements of `specs/Best.antt`: every fit is pooled, its blocks are the only ones, and decreasing is increasing mirrored. Assumes nothing.
use mathlib.Core.Path.{◌≡◌, refl, sym, ◌∙◌, ap}
use mathlib.Core.List.{List, [], ◌∷◌, reverse, reverse_aux}
use Prim.Native.Nat.{ℕ, ◌<◌}
use Rattle.lists.proofs.Repeats.{replicate-back}
use Rattle.pooling.specs.Blocks.{Block, Direction, increasing, blocks, spread, fitted}
use Rattle.pooling.specs.Best.{means, AlwaysPooled, BlocksUnique, MirrorImage}
use Rattle.pooling.proofs.Cuts.{cut-full}
pub use Rattle.pooling.proofs.Unique.{denominator-exists}
use Rattle.pooling.proofs.Gap.{Splits}
use Rattle.pooling.proofs.Laws.{means-splits, fit-best, blocks-cut, blocks-strict, blocks-unique, blocks-mirror}

-- of the means of a fit: a multiple of each block's length
pub blocks-split : (w : Direction) (h : List ℕ) → (D : ℕ) × (0 < D) × Splits D (blocks w h)
blocks-split w h =
    let c = denominator-exists (means (blocks w h)) [] (fit-best w h).positive tt in
    (c.denominator, c.positive, means-splits (blocks-cut w h) c.denominator c.left)

pub always-pooled : AlwaysPooled
always-pooled w h = record {
  cut = blocks-cut w h;
  strict = blocks-strict w h;
  best = fit-best w h;
  comparable = λ y p. denominator-exists (means (blocks w h)) y (fit-best w h).positive p;
}

pub only-blocks : BlocksUnique
only-blocks w h bs c s k = blocks-unique w h bs (cut-full c) s k

spread-back : (bs cs : List Block) → spread (reverse_aux bs cs) ≡ reverse_aux (spread bs) (spread cs)
spread-back [] cs = refl
spread-back (b ∷ bs) cs = spread-back bs (b ∷ cs) ∙ sym (replicate-back b.len b (spread bs) (spread cs))

pub mirror-image : MirrorImage
unfolding fitted
mirror-image h = record {
  blocks_mirrored = blocks-mirror h;
  fit_mirrored = ap spread (blocks-mirror h) ∙ spread-back (blocks increasing (reverse h)) [];
}
