-- The levels of a cut: there are as many as bins; their sum up to a bin; and they grow with the counts. Assumes nothing.
--   up_to D bs t    the sum of the first t levels
use mathlib.Core.Path.{◌≡◌, refl, sym, ap, ◌∙◌}
use mathlib.Core.List.{List}
use Prim.Native.Nat.{ℕ, zero, suc, ◌+◌, ◌*◌, ◌-◌, ◌/◌, ◌≤◌, ◌<◌}
use native.Mathlib.Nat.{mul-le-mul_left, mul-le-mul_right}
use native.Mathlib.Omega.{arith}
use lib.ListN.{length, take, replicate, length-append, length-replicate}
use lib.Seq.{take-length}
use Rattle.lists.specs.Lists.{total, part}
use Rattle.lists.proofs.Sums.{total-append, total-part, total-part-le}
use Rattle.lists.proofs.Parts.{total-take-append, total-take-mono, total-take-many, total-take-past}
use Rattle.lists.proofs.Repeats.{total-replicate}
use Rattle.pooling.specs.Blocks.{Block, Place}
use Rattle.pooling.specs.Best.{CutInto, empty, first}
use Rattle.pooling.proofs.Cuts.{Begins, here, there, begins-fits, begins-sum, PlaceOf, cut-place}
use Rattle.pooling.proofs.Gap.{levels, Splits}

pub levels-length : (D : ℕ) {h : List ℕ} {bs : List Block} → CutInto h bs → length (levels D bs) ≡ length h
levels-length D empty = refl
levels-length D (first x {h = h} {bs = bs} some c) =
    omega (
      arith,
      levels-length D c,
      length-append (replicate (length x) (total x * (D / length x))) (levels D bs),
      length-replicate (length x) (total x * (D / length x)),
      length-append x h,
    )

pub levels-total : (D : ℕ) {h : List ℕ} {bs : List Block} → CutInto h bs → Splits D bs → total (levels D bs) ≡ total h * D
levels-total D empty w = omega arith
levels-total D (first x {h = h} {bs = bs} some c) w =
    omega (
      arith,
      levels-total D c w.1,
      total-append (replicate (length x) (total x * (D / length x))) (levels D bs),
      total-replicate (length x) (total x * (D / length x)),
      ap (λ (z : ℕ). z * D) (total-append x h),
      ap (λ (z : ℕ). total x * z) w.0,
    )

-- ---- within one block
abbrev pub up_to : ℕ → List Block → ℕ → ℕ
up_to D bs t = total (take t (levels D bs))

pub begins-splits : {D : ℕ} {h : List ℕ} {bs : List Block} {n : ℕ} {b : Block} → Begins h bs n b → Splits D bs → D / b.len * b.len ≡ D
begins-splits (here x h) w = w.0
begins-splits (there x k) w = begins-splits k w.1

begins-levels : (D : ℕ) {h : List ℕ} {bs : List Block} {n : ℕ} {b : Block} → Begins h bs n b → Splits D bs → (t : ℕ) → t ≤ b.len
    → up_to D bs (n + t) ≡ D * total (take n h) + t * (b.sum * (D / b.len))
begins-levels D (here x h) w t l = let e : 0 + t ≡ t = omega arith in rw e (total-take-many (length x) t _ _ l ∙ omega arith)
begins-levels D (there x {h = h} {bs = bs} {n = n} k) w t l =
    let e : length x + n + t ≡ length x + (n + t) = omega arith in
    rw e (omega (
      arith,
      total-take-past (length x) (n + t) (total x * (D / length x)) (levels D bs),
      begins-levels D k w.1 t l,
      ap (λ (z : ℕ). D * z) (total-take-append x h n),
      ap (λ (z : ℕ). total x * z) w.0,
    ))

module _ (D : ℕ) {h : List ℕ} {bs : List Block} {i : ℕ} {p : Place} (P : PlaceOf h bs i p) (w : Splits D bs) where
  -- up to bin t of the block at p, or up to its end
  pub up-to : (t : ℕ) → p.start ≤ t → t ≤ p.start + p.block.len
      → up_to D bs t ≡ D * total (take p.start h) + (t - p.start) * (p.block.sum * (D / p.block.len))
  up-to t f g =
      let e : t ≡ p.start + (t - p.start) = omega arith in
      ap (up_to D bs) e ∙ begins-levels D P.begins w (t - p.start) (omega arith)

  -- one bin more
  pub up-to-more : up_to D bs (suc i) ≡ up_to D bs i + p.block.sum * (D / p.block.len)
  up-to-more =
      let n : suc (i - p.start) ≡ suc i - p.start = omega (arith, P.from) in
      omega (
        arith,
        up-to i P.from (omega (arith, P.to)),
        up-to (suc i) (omega (arith, P.from)) P.to,
        ap (λ (z : ℕ). z * (p.block.sum * (D / p.block.len))) n,
      )

-- ---- the levels, times the number of bins, grow at least as the counts times D
-- one bin: T, T' are the counts before and after it, F, F' the levels; its block has the sum s and the length l
bin-grows : (D M a l s T T' F F' : ℕ) → a * l ≡ D → l ≤ M → T' ≤ T + s → F' ≡ F + s * a → D * T' + M * F ≤ D * T + M * F'
bin-grows D M a l s T T' F F' hd hl h_t h_f =
    omega (arith, mul-le-mul_left D h_t, ap (λ (z : ℕ). M * z) h_f, mul-le-mul_right (s * a) hl, ap (λ (z : ℕ). s * z) hd)

module _ {h : List ℕ} {bs : List Block} (k : CutInto h bs) (D : ℕ) (w : Splits D bs) where
  level-grows : (i : ℕ) → i < length h → D * total (take (suc i) h) + length h * up_to D bs i ≤ D * total (take i h) + length h * up_to D bs (suc i)
  level-grows i l =
      let r = cut-place k i l in
      let p = r.0 in
      let P = r.1 in
      bin-grows D (length h) (D / p.block.len) p.block.len p.block.sum _ _ _ _ (begins-splits P.begins w) (omega (arith, begins-fits P.begins))
      (omega (arith, begins-sum P.begins, total-take-mono (suc i) (p.start + p.block.len) h P.to, total-take-mono p.start i h P.from))
      (up-to-more D P w)

  levels-grow : (i n : ℕ) → i + n ≤ length h → D * total (take (i + n) h) + length h * up_to D bs i ≤ D * total (take i h) + length h * up_to D bs (i + n)
  levels-grow i zero l = let e : i + zero ≡ i = omega arith in rw e (omega arith)
  levels-grow i (suc n) l =
      let e : i + suc n ≡ suc (i + n) = omega arith in
      rw e (omega (arith, levels-grow i n (omega arith), level-grows (i + n) (omega arith)))

  levels-between : (i j : ℕ) → i ≤ j → j ≤ length h → D * total (take j h) + length h * up_to D bs i ≤ D * total (take i h) + length h * up_to D bs j
  levels-between i j o l =
      let e : i + (j - i) ≡ j = omega arith in
      rw e at (levels-grow i (j - i) (omega arith))

  -- up to the last bin
  up-to-last : up_to D bs (length h) ≡ total h * D
  up-to-last = ap (up_to D bs) (sym (levels-length D k)) ∙ ap total (take-length (levels D bs)) ∙ levels-total D k w

  module _ (i j : ℕ) (o : i ≤ j) (l : j < length h) where
    -- a part's levels, and those outside it, times the number of bins, are at least the counts there times D
    pub part-grows : D * total (part i j h) ≤ length h * total (part i j (levels D bs))
    part-grows =
        omega (
          arith,
          levels-between i (suc j) (omega arith) l,
          ap (λ (z : ℕ). D * z) (total-part i j h (omega arith)),
          ap (λ (z : ℕ). length h * z) (total-part i j (levels D bs) (omega arith)),
        )

    pub rest-grows : D * total h + length h * total (part i j (levels D bs)) ≤ D * total (part i j h) + length h * (D * total h)
    rest-grows =
        omega (
          arith,
          levels-between 0 i (omega arith) (omega arith),
          levels-between (suc j) (length h) l (omega arith),
          ap (λ (z : ℕ). D * z) (total-part i j h (omega arith)),
          ap (λ (z : ℕ). length h * z) (total-part i j (levels D bs) (omega arith)),
          ap (λ (z : ℕ). length h * z) up-to-last,
          ap (λ (z : List ℕ). D * total z) (take-length h),
        )

    pub part-within : total (part i j (levels D bs)) ≤ D * total h
    part-within = omega (arith, total-part-le i j (levels D bs) (omega arith), levels-total D k w)
