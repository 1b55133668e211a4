-- The laws of pooling: a decreasing fit is the mirror image of an increasing one; the blocks of a fit give the best sequence, and no other blocks do. Assumes nothing.
use mathlib.Core.Path.{◌≡◌, refl, sym, ◌∙◌, ap, subst}
use mathlib.Core.List.{List, [], ◌∷◌, ◌++◌, map, reverse, reverse_aux, reverse-reverse, reverse-cons, append_assoc, append-nil}
use Prim.Native.Nat.{ℕ, ◌<◌}
use lib.IntN.{pos}
use native.Mathlib.Nat.{add_comm}
use native.Mathlib.Omega.{arith}
use borrow.Author.Tests.{ltb-true, ltb-false}
use lib.ListN.{length, replicate, length-append}
use Rattle.pooling.specs.Blocks.{Block, Direction, increasing, decreasing, below, steps_to, StepsTo, merged, push, blocks, Strict, StrictFrom, spread}
use Rattle.pooling.proofs.Basics.{turn, Full, strict-tail, block-eq}
use Rattle.pooling.specs.Fraction.{Fraction, CommonDenominator, times, sumℤ, sum_of}
use Rattle.pooling.specs.Best.{mean, means, CutInto, empty, first, Best}
use Rattle.lists.specs.Lists.{total, part}
use Rattle.lists.proofs.Cases.{by_cond}
use Rattle.lists.proofs.Parts.{part-map}
use Rattle.lists.proofs.Repeats.{map-replicate-append}
use Rattle.lists.proofs.Sums.{total-append}
use Rattle.pooling.proofs.Heavy.{Forms, Cut, done, seg, forms-join, single, blocks-rise}
use Rattle.pooling.proofs.Cuts.{cut-full, block_of}
use Rattle.pooling.proofs.Gap.{levels, Splits}
use Rattle.pooling.proofs.Fit.{fit, fit-levels, fit-splits, sum-levels, rises-best}
use Rattle.pooling.proofs.Unique.{increasing-unique, rises-unique}
use Rattle.pooling.proofs.Mirror.{fit-back, mirror-best}

-- ---- the blocks of a decreasing fit, read from the last to the first, are those of an increasing fit of the bins in reverse
-- the bins g, cut into the blocks bs, of which the last in the order of g is on top
data Stack : List ℕ → List Block → Type 0 where
  ground : Stack [] []
  on : {g x : List ℕ} {b : Block} {bs : List Block} → Stack g bs → Forms x b → Stack (g ++ x) (b ∷ bs)

record Stacked (g : List ℕ) (bs : List Block) : Type 0 where
  stack : Stack g bs
  falling : Strict decreasing bs

merged-comm : (a b : Block) → merged a b ≡ merged b a
merged-comm a b = block-eq (add_comm a.sum b.sum) (add_comm a.len b.len)

push-stacked : {g x : List ℕ} {b : Block} {bs : List Block} → Stack g bs → Strict decreasing bs → Forms x b → Stacked (g ++ x) (push decreasing b bs)
unfolding push
push-stacked ground r p = record { stack = on ground p; falling = tt }
push-stacked {x = x} {b = b} (on {g = g} {x = y} {b = c} {bs = cs} k q) r p =
    by_cond (λ (bs : List Block). Stacked ((g ++ y) ++ x) bs) (below c b) (b ∷ c ∷ cs) (push decreasing (merged b c) cs)
    (λ e. record { stack = on (on k q) p; falling = (ltb-true _ _ e, r) })
    (λ e. subst (λ (z : List ℕ). Stacked z (push decreasing (merged b c) cs)) (sym (append_assoc g y x))
    (push-stacked k (strict-tail decreasing c cs r) (subst (λ (d : Block). Forms (y ++ x) d) (merged-comm c b) (forms-join q p (ltb-false _ _ e)))))

blocks-stacked : (h : List ℕ) → Stacked (reverse h) (blocks decreasing h)
unfolding blocks
blocks-stacked [] = record { stack = ground; falling = tt }
blocks-stacked (x ∷ h) =
    let k = blocks-stacked h in
    subst (λ (z : List ℕ). Stacked z (push decreasing (record { sum = x; len = 1 }) (blocks decreasing h))) (sym (reverse-cons x h)) (push-stacked k.stack k.falling (single x))

unstack : {g h : List ℕ} {bs cs : List Block} → Stack g bs → Cut h cs → Cut (g ++ h) (reverse_aux bs cs)
unstack ground c = c
unstack {h = h} {cs = cs} (on {g = g} {x = x} {b = b} {bs = bs} k p) c =
    subst (λ (z : List ℕ). Cut z (reverse_aux bs (b ∷ cs))) (sym (append_assoc g x h)) (unstack k (seg p c))

steps_back : (w : Direction) (a b : Block) → StepsTo w a b → StepsTo (turn w) b a
steps_back increasing a b h = h
steps_back decreasing a b h = h

strict-back : (w : Direction) (b : Block) (bs cs : List Block) → StrictFrom w b bs → StrictFrom (turn w) b cs → Strict (turn w) (reverse_aux bs (b ∷ cs))
strict-back w b [] cs f r = r
strict-back w b (c ∷ bs) cs f r = strict-back w c bs (b ∷ cs) f.1 (steps_back w b c f.0, r)

strict-reverse : (w : Direction) (bs : List Block) → Strict w bs → Strict (turn w) (reverse bs)
strict-reverse w [] f = tt
strict-reverse w (b ∷ bs) f = strict-back w b bs [] f tt

-- P3: decreasing is increasing mirrored
mirrored : (h : List ℕ) → reverse (blocks decreasing h) ≡ blocks increasing (reverse h)
mirrored h =
    let k = blocks-stacked h in
    rises-unique (reverse h) (reverse (blocks decreasing h))
    record {
      cut = subst (λ (z : List ℕ). Cut z (reverse (blocks decreasing h))) (append-nil (reverse h)) (unstack k.stack done);
      rising = strict-reverse decreasing (blocks decreasing h) k.falling;
    }

pub blocks-mirror : (h : List ℕ) → blocks decreasing h ≡ reverse (blocks increasing (reverse h))
blocks-mirror h = sym (reverse-reverse (blocks decreasing h)) ∙ ap (λ (p : List Block). reverse p) (mirrored h)

-- ---- the means of blocks
pub means-fit : (bs : List Block) → means bs ≡ fit bs
means-fit [] = refl
means-fit (b ∷ bs) = map-replicate-append mean b.len b (spread bs) ∙ ap (λ (z : List Fraction). replicate b.len (mean b) ++ z) (means-fit bs)

pub means-splits : {h : List ℕ} {bs : List Block} → CutInto h bs → (D : ℕ) → CommonDenominator D (means bs) → Splits D bs
means-splits {bs = bs} c D m = fit-splits D bs (cut-full c) (rw means-fit at m)

-- the means of a part, summed
pub means-part : (D : ℕ) (bs : List Block) (i j : ℕ) → sum_of D (part i j (means bs)) ≡ pos (total (part i j (levels D bs)))
means-part D bs i j =
    ap sumℤ (sym (part-map (times D) i j (means bs)) ∙ ap (part i j) (ap (map (times D)) (means-fit bs) ∙ fit-levels D bs) ∙ part-map pos i j (levels D bs))
    ∙ sum-levels (part i j (levels D bs))

-- ---- the fit is best
best-fit : (w : Direction) (h : List ℕ) → Best w h (fit (blocks w h))
best-fit increasing h = rises-best h (blocks increasing h) (blocks-rise h)
best-fit decreasing h =
    subst (λ (z : List Fraction). Best decreasing h z) (sym (ap fit (blocks-mirror h) ∙ fit-back (blocks increasing (reverse h)) []))
    (mirror-best increasing h (fit (blocks increasing (reverse h))) (rises-best (reverse h) (blocks increasing (reverse h)) (blocks-rise (reverse h))))

pub fit-best : (w : Direction) (h : List ℕ) → Best w h (means (blocks w h))
fit-best w h = subst (λ (z : List Fraction). Best w h z) (sym (means-fit (blocks w h))) (best-fit w h)

-- ---- no other blocks give the best sequence
full_back : (bs cs : List Block) → Full bs → Full cs → Full (reverse_aux bs cs)
full_back [] cs p q = q
full_back (b ∷ bs) cs p q = full_back bs (b ∷ cs) p.1 (p.0, q)

unique-fit : (w : Direction) (h : List ℕ) (cs : List Block) → Full cs → Strict w cs → Best w h (fit cs) → cs ≡ blocks w h
unique-fit increasing h cs p s k = increasing-unique h cs p s k
unique-fit decreasing h cs p s k =
    sym (reverse-reverse cs)
    ∙ ap (λ (z : List Block). reverse z)
    (increasing-unique (reverse h) (reverse cs) (full_back cs [] p tt) (strict-reverse decreasing cs s)
    (subst (λ (z : List Fraction). Best increasing (reverse h) z) (sym (fit-back cs []))
    (mirror-best decreasing (reverse h) (fit cs) (subst (λ (z : List ℕ). Best decreasing z (fit cs)) (sym (reverse-reverse h)) k))))
    ∙ sym (blocks-mirror h)

pub blocks-unique : (w : Direction) (h : List ℕ) (cs : List Block) → Full cs → Strict w cs → Best w h (means cs) → cs ≡ blocks w h
blocks-unique w h cs p s k = unique-fit w h cs p s (subst (λ (z : List Fraction). Best w h z) (means-fit cs) k)

-- ---- the blocks cut the bins, each has its bins' sum and number, and their means go strictly one way
push-cut : (w : Direction) (x : List ℕ) {h : List ℕ} {bs : List Block} → 0 < length x → CutInto h bs → CutInto (x ++ h) (push w (block_of x) bs)
unfolding push
push-cut w x some empty = first x some empty
push-cut w x some (first y {h = h} {bs = bs} more c) =
    by_cond (λ (z : List Block). CutInto (x ++ (y ++ h)) z) (steps_to w (block_of x) (block_of y)) (block_of x ∷ block_of y ∷ bs) (push w (merged (block_of x) (block_of y)) bs)
    (λ e. first x some (first y more c))
    (λ e. subst (λ (b : Block). CutInto (x ++ (y ++ h)) (push w b bs)) (block-eq (total-append x y) (length-append x y))
    (subst (λ (z : List ℕ). CutInto z (push w (block_of (x ++ y)) bs)) (append_assoc x y h)
    (push-cut w (x ++ y) (omega (arith, length-append x y)) c)))

pub blocks-cut : (w : Direction) (h : List ℕ) → CutInto h (blocks w h)
unfolding blocks
blocks-cut w [] = empty
blocks-cut w (x ∷ h) = subst (λ (b : Block). CutInto (x ∷ h) (push w b (blocks w h))) (block-eq (omega arith) refl) (push-cut w (x ∷ []) (omega arith) (blocks-cut w h))

pub blocks-strict : (w : Direction) (h : List ℕ) → Strict w (blocks w h)
blocks-strict increasing h = (blocks-rise h).rising
blocks-strict decreasing h =
    subst (λ (z : List Block). Strict decreasing z) (sym (blocks-mirror h)) (strict-reverse increasing (blocks increasing (reverse h)) (blocks-rise (reverse h)).rising)
