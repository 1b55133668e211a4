-- The fit of the pooled blocks is nondecreasing, keeps the total, and is nearer to the counts than any other nondecreasing sequence of fractions. Assumes nothing.
use mathlib.Core.Path.{◌≡◌, refl, sym, ◌∙◌, ap}
use mathlib.Core.List.{List, [], ◌∷◌, ◌++◌, map}
use Prim.Native.Nat.{ℕ, zero, suc, ◌+◌, ◌*◌, ◌-◌, ◌/◌, ◌≤◌, ◌<◌}
use native.Mathlib.Omega.{arith}
use lib.Dec.{ltb, le→leb}
use borrow.Author.Tests.{ltb-false}
use lib.IntN.{ℤ, pos, negsuc, sub_ℕ, ◌+ℤ◌, ◌-ℤ◌}
use lib.Signed.{≤ℤ_refl}
use lib.ListN.{length, replicate, get_or, length-map, get_or-map}
use Rattle.pooling.specs.Blocks.{Block, increasing, Strict, StrictFrom}
use Rattle.pooling.proofs.Basics.{Full}
use Rattle.pooling.specs.Fraction.{Fraction, ◌≤Q◌, Proper, Ordered, OrderedFrom, CommonDenominator, times, sumℤ, sq, squares, scaled, error}
use Rattle.pooling.specs.Best.{mean, at, CutInto, Best}
use Rattle.lists.specs.Lists.{total}
use Rattle.lists.proofs.Cases.{by_cond}
use Rattle.lists.proofs.Repeats.{map-replicate-append}
use Rattle.pooling.proofs.Heavy.{Cut, Rises, forms-cut}
use Rattle.pooling.proofs.Cuts.{cut-full}
use Rattle.pooling.proofs.Gap.{levels, Splits, cut-far}
use Rattle.pooling.proofs.FittedLevels.{levels-length, levels-total}
use Rattle.pooling.proofs.Scale.{divides, same-of-times, grows-times}

-- the means, block by block
abbrev pub fit : List Block → List Fraction
fit [] = []
fit (b ∷ bs) = replicate b.len (mean b) ++ fit bs

-- ---- denominators, order
proper-many : (n : ℕ) (y : Fraction) (ys : List Fraction) → 0 < y.den → Proper ys → Proper (replicate n y ++ ys)
proper-many zero y ys h k = k
proper-many (suc n) y ys h k = (h, proper-many n y ys h k)

fit-proper : (bs : List Block) → Full bs → Proper (fit bs)
fit-proper [] w = tt
fit-proper (b ∷ bs) w = proper-many b.len (mean b) (fit bs) w.0 (fit-proper bs w.1)

rises-many : (n : ℕ) (x : Fraction) (ys : List Fraction) → x ≤Q x → OrderedFrom increasing x ys → OrderedFrom increasing x (replicate n x ++ ys)
rises-many zero x ys h k = k
rises-many (suc n) x ys h k = (h, rises-many n x ys h k)

mean-le : (a b : Block) → a.sum * b.len ≤ b.sum * a.len → mean a ≤Q mean b
mean-le a b h = record { le = le→leb _ _ h }

below-many : (n : ℕ) (x y : Fraction) (ys : List Fraction) → 0 < n → x ≤Q y → y ≤Q y → OrderedFrom increasing y ys → OrderedFrom increasing x (replicate n y ++ ys)
below-many zero x y ys some h k r = absurd (omega arith)
below-many (suc n) x y ys some h k r = (h, rises-many n y ys k r)

fit-rises-from : (b : Block) (bs : List Block) → Full bs → StrictFrom increasing b bs → OrderedFrom increasing (mean b) (fit bs)
fit-rises-from b [] w r = tt
fit-rises-from b (c ∷ cs) w r =
    below-many c.len (mean b) (mean c) (fit cs) w.0 (mean-le b c (omega (arith, r.0))) (mean-le c c (omega arith)) (fit-rises-from c cs w.1 r.1)

rises-first : (n : ℕ) (y : Fraction) (ys : List Fraction) → 0 < n → y ≤Q y → OrderedFrom increasing y ys → Ordered increasing (replicate n y ++ ys)
rises-first zero y ys some h r = absurd (omega arith)
rises-first (suc n) y ys some h r = rises-many n y ys h r

pub fit-rises : (bs : List Block) → Full bs → Strict increasing bs → Ordered increasing (fit bs)
fit-rises [] w r = tt
fit-rises (b ∷ bs) w r = rises-first b.len (mean b) (fit bs) w.0 (mean-le b b (omega arith)) (fit-rises-from b bs w.1 r)

-- ---- the fit times D
pub fit-levels : (D : ℕ) (bs : List Block) → map (times D) (fit bs) ≡ map pos (levels D bs)
fit-levels D [] = refl
fit-levels D (b ∷ bs) =
    map-replicate-append (times D) b.len (mean b) (fit bs) ∙ ap (λ (z : List ℤ). replicate b.len (times D (mean b)) ++ z) (fit-levels D bs)
    ∙ sym (map-replicate-append pos b.len (b.sum * (D / b.len)) (levels D bs))

fit_length : {h : List ℕ} {bs : List Block} → CutInto h bs → length (fit bs) ≡ length h
fit_length {bs = bs} c = sym (length-map (fit bs) (times 1)) ∙ ap length (fit-levels 1 bs) ∙ length-map (levels 1 bs) pos ∙ levels-length 1 c

multiple-rest : (D n : ℕ) (y : Fraction) (ys : List Fraction) → CommonDenominator D (replicate n y ++ ys) → CommonDenominator D ys
multiple-rest D zero y ys m = m
multiple-rest D (suc n) y ys m = multiple-rest D n y ys m.1

multiple-first : (D n : ℕ) (y : Fraction) (ys : List Fraction) → 0 < n → CommonDenominator D (replicate n y ++ ys) → D / y.den * y.den ≡ D
multiple-first D zero y ys some m = absurd (omega arith)
multiple-first D (suc n) y ys some m = divides D y.den m.0

pub fit-splits : (D : ℕ) (bs : List Block) → Full bs → CommonDenominator D (fit bs) → Splits D bs
fit-splits D [] w m = tt
fit-splits D (b ∷ bs) w m = (multiple-first D b.len (mean b) (fit bs) w.0 m, fit-splits D bs w.1 (multiple-rest D b.len (mean b) (fit bs) m))

-- ---- the total
pub sum-levels : (fs : List ℕ) → sumℤ (map pos fs) ≡ pos (total fs)
sum-levels [] = refl
sum-levels (f ∷ fs) = ap (λ z. pos f +ℤ z) (sum-levels fs)

-- ---- a difference in one place
square-pos : (k : ℕ) → 0 < k → 0 < k * k
square-pos zero h = h
square-pos (suc k) h = omega arith

sub-pos : (a b : ℕ) → ¬ (pos a ≡ pos b) → 0 < sq (sub_ℕ a b)
sub-pos a b n =
    by_cond (λ (z : ℤ). 0 < sq z) (ltb a b) (negsuc (b - suc a)) (pos (a - b))
    (λ e. omega arith) (λ e. square-pos (a - b) (differ a b (ltb-false a b e) (λ p. n (ap pos p))))
  where
    differ : (a b : ℕ) → b ≤ a → ¬ (a ≡ b) → 0 < a - b
    differ a b h n = omega arith

sq_pos : (n : ℕ) (z : ℤ) → ¬ (pos n ≡ z) → 0 < sq (pos n -ℤ z)
sq_pos zero (pos zero) h = absurd (h refl)
sq_pos (suc n) (pos zero) h = omega arith
sq_pos n (pos (suc m)) h = sub-pos n (suc m) h
sq_pos n (negsuc m) h = omega arith

squares-pos : (fs : List ℕ) (ys : List ℤ) (i : ℕ) (d : ℤ) → i < length fs → i < length ys → ¬ (get_or (map pos fs) i d ≡ get_or ys i d) → 0 < squares fs ys
squares-pos [] ys i d h k n = absurd (omega arith)
squares-pos (f ∷ fs) [] i d h k n = absurd (omega arith)
squares-pos (f ∷ fs) (y ∷ ys) zero d h k n = omega (arith, sq_pos f y n)
squares-pos (f ∷ fs) (y ∷ ys) (suc i) d h k n = omega (arith, squares-pos fs ys i d (omega arith) (omega arith) n)

multiple-at : (D : ℕ) (ys : List Fraction) (i : ℕ) → i < length ys → CommonDenominator D ys → D / (at ys i).den * (at ys i).den ≡ D
multiple-at D [] i h m = absurd (omega arith)
multiple-at D (y ∷ ys) zero h m = divides D y.den m.0
multiple-at D (y ∷ ys) (suc i) h m = multiple-at D ys i (omega arith) m.1

-- what `at` gives past the last
abbrev zeroth : Fraction
zeroth = record { num = pos 0; den = 1 }

times-at : (D : ℕ) (ys : List Fraction) (i : ℕ) → get_or (map (times D) ys) i (times D zeroth) ≡ times D (at ys i)
times-at D ys i = get_or-map (times D) ys i zeroth

-- any sequence that does not fall, times D, does not fall from some start
farther : (D : ℕ) {h : List ℕ} {bs : List Block} → 0 < D → Cut h bs → Splits D bs → (y : List Fraction) → length y ≡ length h → CommonDenominator D y → Ordered increasing y
    → squares (scaled D h) (map pos (levels D bs)) + squares (levels D bs) (map (times D) y) ≤ error D h y
farther D some k w [] hl m r = cut-far D k w (pos 0) [] hl tt
farther D some k w (z ∷ zs) hl m r =
    cut-far D k w (times D z) (map (times D) (z ∷ zs)) (ap suc (length-map zs (times D)) ∙ hl) (≤ℤ_refl (times D z), grows-times D some z zs (divides D z.den m.0) m.1 r)

pub rises-best : (h : List ℕ) (bs : List Block) → Rises h bs → Best increasing h (fit bs)
rises-best h bs k =
    let c = forms-cut k.cut in
    record {
      same_length = fit_length c;
      positive = fit-proper bs (cut-full c);
      monotone = fit-rises bs (cut-full c) k.rising;
      same_total = λ D some m.
          ap sumℤ (fit-levels D bs) ∙ sum-levels (levels D bs) ∙ ap pos (levels-total D c (fit-splits D bs (cut-full c) m));
      least_error = λ y hl py ry i hi differ D some mf my.
          let w : Splits D bs = fit-splits D bs (cut-full c) mf in
          let far : squares (scaled D h) (map pos (levels D bs)) + squares (levels D bs) (map (times D) y) ≤ error D h y = farther D some k.cut w y hl my ry in
          let m : error D h (fit bs) ≡ squares (scaled D h) (map pos (levels D bs)) = ap (λ (z : List ℤ). squares (scaled D h) z) (fit-levels D bs) in
          let il : i < length (levels D bs) = omega (arith, levels-length D c) in
          let iy : i < length (map (times D) y) = omega (arith, length-map y (times D)) in
          let apart : ¬ (get_or (map pos (levels D bs)) i (times D zeroth) ≡ get_or (map (times D) y) i (times D zeroth)) =
          λ e. differ (same-of-times D (at (fit bs) i) (at y i) some (multiple-at D (fit bs) i (omega (arith, fit_length c)) mf) (multiple-at D y i (omega arith) my)
          (sym (times-at D (fit bs) i) ∙ ap (λ (z : List ℤ). get_or z i (times D zeroth)) (fit-levels D bs) ∙ e ∙ times-at D y i)) in
          omega (arith, squares-pos (levels D bs) (map (times D) y) i (times D zeroth) il iy apart);
    }
