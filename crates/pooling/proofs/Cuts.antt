-- The laws of bins that are cut into blocks: no block is empty, and the blocks have all bins and counts; where a block lies and what its sum is; the block of a bin. Assumes nothing.
--   Begins h bs n b    of the bins h, cut into the blocks bs, the block b begins at bin n
--   PlaceOf h bs i p   the place p is that of bin i: its block begins where p says, and holds bin i
use mathlib.Core.Path.{◌≡◌, refl, ap, ◌∙◌}
use mathlib.Core.List.{List, ◌∷◌, ◌++◌}
use Prim.Native.Nat.{ℕ, ◌+◌, ◌-◌, ◌≤◌, ◌<◌}
use native.Mathlib.Omega.{arith}
use lib.ListN.{length, take, length-append}
use lib.Seq.{take-append_seam}
use Rattle.lists.specs.Lists.{total}
use Rattle.lists.proofs.Cases.{by_order}
use Rattle.lists.proofs.Sums.{total-append, total-take-le}
use Rattle.lists.proofs.Parts.{total-take-append}
use Rattle.pooling.specs.Blocks.{Block, Place}
use Rattle.pooling.specs.Best.{CutInto, empty, first}
use Rattle.pooling.specs.Stack.{sum_in, bins_in}
use Rattle.pooling.proofs.Basics.{Full}

pub cut-full : {h : List ℕ} {bs : List Block} → CutInto h bs → Full bs
cut-full empty = tt
cut-full (first x some c) = (some, cut-full c)

pub cut-bins : {h : List ℕ} {bs : List Block} → CutInto h bs → bins_in bs ≡ length h
unfolding bins_in
cut-bins empty = refl
cut-bins (first x {h = h} some c) = omega (arith, cut-bins c, length-append x h)

pub cut_sum : {h : List ℕ} {bs : List Block} → CutInto h bs → sum_in bs ≡ total h
unfolding sum_in
cut_sum empty = refl
cut_sum (first x {h = h} some c) = omega (arith, cut_sum c, total-append x h)

pub cut-few : {h : List ℕ} {bs : List Block} → CutInto h bs → length bs ≤ length h
cut-few empty = omega arith
cut-few (first x {h = h} some c) = omega (arith, cut-few c, length-append x h)

-- ---- one block of the cut
abbrev pub block_of : List ℕ → Block
block_of x = record { sum = total x; len = length x }

pub data Begins : List ℕ → List Block → ℕ → Block → Type 0 where
  here : (x h : List ℕ) {bs : List Block} → Begins (x ++ h) (block_of x ∷ bs) 0 (block_of x)
  there : (x : List ℕ) {h : List ℕ} {bs : List Block} {n : ℕ} {b : Block} → Begins h bs n b → Begins (x ++ h) (block_of x ∷ bs) (length x + n) b

pub begins-fits : {h : List ℕ} {bs : List Block} {n : ℕ} {b : Block} → Begins h bs n b → n + b.len ≤ length h
begins-fits (here x h) = omega (arith, length-append x h)
begins-fits (there x {h = h} k) = omega (arith, length-append x h, begins-fits k)

pub begins-sum : {h : List ℕ} {bs : List Block} {n : ℕ} {b : Block} → Begins h bs n b → total (take (n + b.len) h) ≡ total (take n h) + b.sum
begins-sum (here x h) = let e : 0 + length x ≡ length x = omega arith in rw e (ap total (take-append_seam x h) ∙ omega arith)
begins-sum (there x {h = h} {n = n} {b = b} k) =
    let e : length x + n + b.len ≡ length x + (n + b.len) = omega arith in
    rw e (omega (arith, total-take-append x h (n + b.len), total-take-append x h n, begins-sum k))

-- ---- the block of bin i
pub record PlaceOf (h : List ℕ) (bs : List Block) (i : ℕ) (p : Place) : Type 0 where
  pub begins : Begins h bs p.start p.block
  pub from : p.start ≤ i
  pub to : i < p.start + p.block.len

pub place-sum-le : {h : List ℕ} {bs : List Block} {i : ℕ} {p : Place} → PlaceOf h bs i p → p.block.sum ≤ total h
place-sum-le {h = h} {p = p} P = omega (arith, begins-sum P.begins, total-take-le (p.start + p.block.len) h)

pub cut-place : {h : List ℕ} {bs : List Block} → CutInto h bs → (i : ℕ) → i < length h → (p : Place) × PlaceOf h bs i p
cut-place empty i l = absurd (omega arith)
cut-place (first x {h = h} {bs = bs} some c) i l =
    by_order i (length x)
    (λ k. (record { start = 0; block = block_of x }, record { begins = here x h; from = omega arith; to = omega arith }))
    (λ k. later k (cut-place c (i - length x) (omega (arith, length-append x h))))
  where
    later : length x ≤ i → (p : Place) × PlaceOf h bs (i - length x) p → (p : Place) × PlaceOf (x ++ h) (block_of x ∷ bs) i p
    later k r =
        let P = r.1 in
        (record { start = length x + r.0.start; block = r.0.block }, record { begins = there x P.begins; from = omega (arith, P.from); to = omega (arith, P.to) })
