-- Two sequences always have a common denominator; there is only one best sequence, and only one list of blocks that gives it. Assumes nothing.
use mathlib.Core.Path.{◌≡◌, refl, sym, ◌∙◌, ap, subst}
use mathlib.Core.List.{List, [], ◌∷◌, ◌++◌}
use Prim.Native.Nat.{ℕ, zero, suc, ◌*◌, ◌%◌, ◌<◌}
use native.Mathlib.Nat.{mul-lt-mul_of_pos_right, mul-mod_left, eq_of_mul-eq-mul_left}
use native.Mathlib.Omega.{arith}
use lib.IntN.{nat_abs, ℤ_discrete}
use lib.ListN.{length, replicate}
use Rattle.pooling.specs.Blocks.{Block, Direction, increasing, blocks, Strict, StrictFrom}
use Rattle.pooling.proofs.Basics.{Full, strict-tail, block-eq}
use Rattle.pooling.specs.Fraction.{Fraction, ◌≈◌, Proper, CommonDenominator, error}
use Rattle.pooling.specs.Best.{mean, at, Best, DenominatorExists}
use Rattle.pooling.proofs.Heavy.{Rises, forms-cut, blocks-rise}
use Rattle.pooling.proofs.Cuts.{cut-full}
use Rattle.pooling.proofs.Fit.{fit, rises-best}

-- ---- the product of the denominators is a multiple of each
abbrev pub product : List Fraction → ℕ
product [] = 1
product (y ∷ ys) = y.den * product ys

product-pos : (ys : List Fraction) → Proper ys → 0 < product ys
product-pos [] p = omega arith
product-pos (y ∷ ys) p = omega (arith, mul-lt-mul_of_pos_right {k = product ys} p.0 (product-pos ys p.1))

multiple-of : (ys : List Fraction) → Proper ys → (c D : ℕ) → c * product ys ≡ D → CommonDenominator D ys
multiple-of [] p c D e = tt
multiple-of (y ∷ ys) p c D e = (
  subst (λ (z : ℕ). z % y.den ≡ 0) (shape y.den (product ys) c D e) (mul-mod_left (c * product ys) y.den),
  multiple-of ys p.1 (c * y.den) D (shape' y.den (product ys) c D e),
)
  where
    shape : (b P c D : ℕ) → c * (b * P) ≡ D → c * P * b ≡ D
    shape b P c D e = omega arith

    shape' : (b P c D : ℕ) → c * (b * P) ≡ D → c * b * P ≡ D
    shape' b P c D e = omega arith

-- so the product of the two products will do for both
pub denominator-exists : DenominatorExists
denominator-exists f y pf py = record {
  denominator = product f * product y;
  positive = omega (arith, mul-lt-mul_of_pos_right {k = product y} (product-pos f pf) (product-pos y py));
  left = multiple-of f pf (product y) (product f * product y) (omega arith);
  right = multiple-of y py (product f) (product f * product y) refl;
}

-- ---- the best sequence is one
pub values-unique : (w : Direction) (h : List ℕ) (f g : List Fraction) → Best w h f → Best w h g → (i : ℕ) → i < length h → at f i ≈ at g i
values-unique d h f g p q i hi = go (ℤ_discrete _ _)
  where
    go : Dec (at f i ≈ at g i) → at f i ≈ at g i
    go (yes e) = e
    go (no n) =
        let c = denominator-exists f g p.positive q.positive in
        let D = c.denominator in
        let a : error D h f < error D h g = p.least_error g q.same_length q.positive q.monotone i hi n D c.positive c.left c.right in
        let b : error D h g < error D h f = q.least_error f p.same_length p.positive p.monotone i hi (λ e. n (sym e)) D c.positive c.right c.left in
        absurd (omega arith)

-- ---- equal values, equal blocks
abbrev Same : List Fraction → List Fraction → Type 0
Same [] [] = Unit {0}
Same [] (y ∷ ys) = ⊥
Same (x ∷ xs) [] = ⊥
Same (x ∷ xs) (y ∷ ys) = (x ≈ y) × Same xs ys

same-sym : (xs ys : List Fraction) → Same xs ys → Same ys xs
same-sym [] [] s = tt
same-sym [] (y ∷ ys) s = s
same-sym (x ∷ xs) [] s = s
same-sym (x ∷ xs) (y ∷ ys) s = (sym s.0, same-sym xs ys s.1)

same_at : (xs ys : List Fraction) → length xs ≡ length ys → ((i : ℕ) → i < length xs → at xs i ≈ at ys i) → Same xs ys
same_at [] [] h e = tt
same_at [] (y ∷ ys) h e = absurd (omega arith)
same_at (x ∷ xs) [] h e = absurd (omega arith)
same_at (x ∷ xs) (y ∷ ys) h e = (e 0 (omega arith), same_at xs ys (omega arith) (λ i hi. e (suc i) (omega arith)))

-- the first of a part of w's mean
head-same : (w z : Block) (n : ℕ) (ws zs : List Fraction) → 0 < n → Same (replicate n (mean w) ++ ws) (mean z ∷ zs) → w.sum * z.len ≡ z.sum * w.len
head-same w z zero ws zs some s = absurd (omega arith)
head-same w z (suc n) ws zs some s = ap nat_abs s.0

first-same : (x z : Block) (n m : ℕ) (xs zs : List Fraction) → 0 < n → 0 < m → Same (replicate n (mean x) ++ xs) (replicate m (mean z) ++ zs) → x.sum * z.len ≡ z.sum * x.len
first-same x z n zero xs zs some more s = absurd (omega arith)
first-same x z n (suc m) xs zs some more s = head-same x z n xs (replicate m (mean z) ++ zs) some s

clash : (xs xl zs zl ws wl : ℕ) → 0 < zl → xs * zl ≡ zs * xl → ws * zl ≡ zs * wl → xs * wl < ws * xl → ⊥
clash xs xl zs zl ws wl some e f h =
    omega (arith, mul-lt-mul_of_pos_right {k = zl} h some, ap (λ (k : ℕ). k * wl) e, ap (λ (k : ℕ). k * xl) f)

-- after a block of x's mean, which is z's, no block of z's mean follows
no_more : (x z : Block) (bs : List Block) (zs : List Fraction) → 0 < z.len → x.sum * z.len ≡ z.sum * x.len → Full bs → StrictFrom increasing x bs → Same (fit bs) (mean z ∷ zs) → ⊥
no_more x z [] zs some e w r s = s
no_more x z (b ∷ bs) zs some e w r s =
    clash x.sum x.len z.sum z.len b.sum b.len some e (head-same b z b.len (fit bs) zs w.0 s) r.0

module _ (x z : Block) (bs cs : List Block) (sx : 0 < x.len) (sz : 0 < z.len) (e : x.sum * z.len ≡ z.sum * x.len)
    (wb : Full bs) (wc : Full cs) (rb : StrictFrom increasing x bs) (rc : StrictFrom increasing z cs) where
  peel : (n m : ℕ) → Same (replicate n (mean x) ++ fit bs) (replicate m (mean z) ++ fit cs) → (n ≡ m) × Same (fit bs) (fit cs)
  peel zero zero s = (refl, s)
  peel zero (suc m) s = absurd (no_more x z bs (replicate m (mean z) ++ fit cs) sz e wb rb s)
  peel (suc n) zero s = absurd (no_more z x cs (replicate n (mean x) ++ fit bs) sx (sym e) wc rc (same-sym (mean x ∷ (replicate n (mean x) ++ fit bs)) (fit cs) s))
  peel (suc n) (suc m) s = let r = peel n m s.1 in (ap suc r.0, r.1)

empty-many : (n : ℕ) (y : Fraction) (ys : List Fraction) → 0 < n → Same [] (replicate n y ++ ys) → ⊥
empty-many zero y ys some s = omega arith
empty-many (suc n) y ys some s = s

sum-eq : (s t l m : ℕ) → 0 < l → l ≡ m → s * m ≡ t * l → s ≡ t
sum-eq s t l m some e h = eq_of_mul-eq-mul_left l some s t (omega (arith, ap (λ (k : ℕ). k * s) e))

pub blocks-same : (bs cs : List Block) → Full bs → Full cs → Strict increasing bs → Strict increasing cs → Same (fit bs) (fit cs) → bs ≡ cs
blocks-same [] [] wb wc rb rc s = refl
blocks-same [] (c ∷ cs) wb wc rb rc s = absurd (empty-many c.len (mean c) (fit cs) wc.0 s)
blocks-same (b ∷ bs) [] wb wc rb rc s = absurd (empty-many b.len (mean b) (fit bs) wb.0 (same-sym (fit (b ∷ bs)) [] s))
blocks-same (b ∷ bs) (c ∷ cs) wb wc rb rc s =
    let e : b.sum * c.len ≡ c.sum * b.len = first-same b c b.len c.len (fit bs) (fit cs) wb.0 wc.0 s in
    let r = peel b c bs cs wb.0 wc.0 e wb.1 wc.1 rb rc b.len c.len s in
    let p : b ≡ c = block-eq (sum-eq b.sum c.sum b.len c.len wb.0 r.0 e) r.0 in
    let q : bs ≡ cs = blocks-same bs cs wb.1 wc.1 (strict-tail increasing b bs rb) (strict-tail increasing c cs rc) r.1 in
    cc

-- whatever blocks give the best sequence and rise strictly are the pooled ones
pub increasing-unique : (h : List ℕ) (cs : List Block) → Full cs → Strict increasing cs → Best increasing h (fit cs) → cs ≡ blocks increasing h
increasing-unique h cs w r k =
    let p = blocks-rise h in
    let best = rises-best h (blocks increasing h) p in
    blocks-same cs (blocks increasing h) w (cut-full (forms-cut p.cut)) r p.rising
    (same_at (fit cs) (fit (blocks increasing h)) (k.same_length ∙ sym best.same_length) (λ i hi. values-unique increasing h (fit cs) (fit (blocks increasing h)) k best i (omega (arith, k.same_length))))

pub rises-unique : (h : List ℕ) (cs : List Block) → Rises h cs → cs ≡ blocks increasing h
rises-unique h cs k = increasing-unique h cs (cut-full (forms-cut k.cut)) k.rising (rises-best h cs k)
