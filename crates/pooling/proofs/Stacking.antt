-- The stack of blocks: its top, a store on top of it, a push, a bin more, and bounds on what it holds. Assumes nothing.
use mathlib.Core.Path.{◌≡◌, sym, ◌∙◌, ap}
use mathlib.Core.Bool.{Bool, true, false}
use mathlib.Core.List.{List, [], ◌∷◌, map}
use Prim.Native.Nat.{ℕ, ◌+◌, ◌≤◌, ◌<◌}
use native.Mathlib.Omega.{arith}
use native.Mathlib.Numerals.{add-one}
use lib.ListN.{length, get_or, set, drop, length-drop, length-map, drop_of_length-le}
use lib.Seq.{drop-cons}
use Rattle.std.proofs.lemmas.List.{drop-set, set-set, get_or-set_same}
use Rattle.lists.specs.Lists.{total}
use Rattle.lists.proofs.Sums.{total-split}
use Rattle.pooling.specs.Blocks.{Block, Place, Direction, steps_to, merged, push, blocks}
use Rattle.pooling.specs.Stack.{stack_of, sum_in, bins_in, HeldFrom}
use Rattle.pooling.proofs.Cuts.{cut_sum, cut-bins, cut-few}
use Rattle.pooling.proofs.Laws.{blocks-cut}

-- what is read past the last place
abbrev pub no_place : Place
no_place = record { start = 0; block = record { sum = 0; len = 0 } }

abbrev pub block_at : List Place → ℕ → Block
block_at ps k = (get_or ps k no_place).block

-- ---- the stack in the places
pub stack-length : (ps : List Place) (t : ℕ) → t ≤ length ps → length (stack_of ps t) + t ≡ length ps
stack-length ps t h = omega (arith, length-map (drop t ps) (λ (p : Place). p.block), length-drop t ps)

pub stack-none : (ps : List Place) (t : ℕ) → length ps ≤ t → stack_of ps t ≡ []
stack-none ps t h = ap (map (λ (p : Place). p.block)) (drop_of_length-le ps {i = t} h)

pub stack_top : (ps : List Place) (t : ℕ) → t < length ps → stack_of ps t ≡ block_at ps t ∷ stack_of ps (t + 1)
stack_top ps t h = ap (map (λ (p : Place). p.block)) (drop-cons ps t no_place h ∙ ap (λ (m : ℕ). get_or ps t no_place ∷ drop m ps) (sym (add-one t)))

pub sum_top : (ps : List Place) (t : ℕ) → t < length ps → sum_in (stack_of ps t) ≡ (block_at ps t).sum + sum_in (stack_of ps (t + 1))
unfolding sum_in
sum_top ps t h = ap sum_in (stack_top ps t h)

pub bins-top : (ps : List Place) (t : ℕ) → t < length ps → bins_in (stack_of ps t) ≡ (block_at ps t).len + bins_in (stack_of ps (t + 1))
unfolding bins_in
bins-top ps t h = ap bins_in (stack_top ps t h)

-- what is stored on top
pub stack-store : (ps : List Place) (t : ℕ) (p : Place) → t < length ps → stack_of (set ps t p) t ≡ p.block ∷ stack_of ps (t + 1)
stack-store ps t p h = ap (map (λ (q : Place). q.block)) (drop-set ps t p h)

-- its sum, and then its length
pub stack-stores : (ps : List Place) (t : ℕ) (p : Place) (s : ℕ) (b : Block) → t < length ps → p.block.sum ≡ b.sum
    → stack_of (set (set ps t p) t (record { start = s; block = record { sum = (get_or (set ps t p) t no_place).block.sum; len = b.len } })) t ≡ b ∷ stack_of ps (t + 1)
stack-stores ps t p s b h e =
    ap (λ (qs : List Place). stack_of qs t) (set-set ps t p _) ∙ stack-store ps t _ h
    ∙ ap (λ (n : ℕ). record { sum = n; len = b.len } ∷ stack_of ps (t + 1)) (ap (λ (q : Place). q.block.sum) (get_or-set_same ps t p no_place h) ∙ e)

-- ---- a push onto the stack: onto none, onto a top to which the step is strict, and into a top to which it is not
pub push-none : (w : Direction) (b : Block) (ps : List Place) (t : ℕ) → length ps ≤ t → push w b (stack_of ps t) ≡ b ∷ stack_of ps t
unfolding push
push-none w b ps t h = rw (stack-none ps t h)

module _ (w : Direction) (b : Block) (ps : List Place) (t : ℕ) (strict : Bool) (some : t < length ps) (e : strict ≡ steps_to w b (block_at ps t)) where
  pub push-strict : strict ≡ true → push w b (stack_of ps t) ≡ b ∷ stack_of ps t
  unfolding push
  push-strict g = rw (stack_top ps t some) (rw (← e, g))

  pub push-merged : (st : List Block) → strict ≡ false → push w b (stack_of ps t) ≡ st → push w (merged b (block_at ps t)) (stack_of ps (t + 1)) ≡ st
  unfolding push
  push-merged st g p = rw (← e, g) at (rw (stack_top ps t some) at p)

-- ---- the next lower bin, bin i: the blocks of the bins after it are held
module _ (w : Direction) (h : List ℕ) (i : ℕ) (bs : List Block) (within : i < length h) (held : HeldFrom w h (i + 1) bs) where
  with-next : drop i h ≡ get_or h i 0 ∷ drop (i + 1) h
  with-next = drop-cons h i 0 within ∙ ap (λ (m : ℕ). get_or h i 0 ∷ drop m h) (sym (add-one i))

  pub held_more : (bs' : List Block) → bs' ≡ push w (record { sum = get_or h i 0; len = 1 }) bs → HeldFrom w h i bs'
  unfolding blocks
  held_more bs' p = p ∙ ap (push w (record { sum = get_or h i 0; len = 1 })) held ∙ ap (blocks w) (sym with-next)

  -- there is room for it: a place in the array, and what it adds stays within the bins and counts of the stretch
  pub held-room : (length bs + i < length h) × (sum_in bs + get_or h i 0 ≤ total h) × (bins_in bs + i < length h)
  held-room =
      let c = blocks-cut w (drop (i + 1) h) in
      let d = length-drop (i + 1) h in (
        omega (arith, ap length held, cut-few c),
        omega (arith, ap sum_in held, cut_sum c, ap total with-next, total-split i h),
        omega (arith, ap bins_in held, cut-bins c),
      )
