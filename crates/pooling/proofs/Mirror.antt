-- The mirror image of the best sequence is the best one in the other direction. Assumes nothing.
use mathlib.Core.Path.{◌≡◌, refl, sym, ◌∙◌, ap, subst}
use mathlib.Core.List.{List, [], ◌∷◌, reverse, reverse_aux, reverse-reverse}
use Prim.Native.Nat.{ℕ, suc, ◌+◌, ◌*◌, ◌-◌, ◌<◌}
use native.Mathlib.Omega.{arith}
use lib.IntN.{ℤ, pos, ◌+ℤ◌, +ℤ_assoc, +ℤ_comm, +ℤ_idl, +ℤ_idr}
use lib.ListN.{length, length-reverse}
use Rattle.pooling.specs.Blocks.{Block, Direction, increasing, decreasing}
use Rattle.pooling.specs.Fraction.{Fraction, Follows, Ordered, OrderedFrom, ◌≈◌, Proper, CommonDenominator, times, sum_of, error}
use Rattle.pooling.specs.Best.{mean, at, Best}
use Rattle.lists.proofs.Repeats.{replicate-back}
use Rattle.lists.proofs.Reversal.{get_d_reverse, total-reverse}
use Rattle.pooling.proofs.Basics.{turn}
use Rattle.pooling.proofs.Fit.{fit}

-- ---- a sequence turned round
at-reverse : (xs : List Fraction) (i : ℕ) → i < length xs → at (reverse xs) i ≡ at xs (length xs - suc i)
at-reverse xs i h = get_d_reverse xs i _ h

proper-back : (xs ys : List Fraction) → Proper xs → Proper ys → Proper (reverse_aux xs ys)
proper-back [] ys p q = q
proper-back (x ∷ xs) ys p q = proper-back xs (x ∷ ys) p.1 (p.0, q)

multiple-back : (D : ℕ) (xs ys : List Fraction) → CommonDenominator D xs → CommonDenominator D ys → CommonDenominator D (reverse_aux xs ys)
multiple-back D [] ys p q = q
multiple-back D (x ∷ xs) ys p q = multiple-back D xs (x ∷ ys) p.1 (p.0, q)

multiple-reverse : (D : ℕ) (xs : List Fraction) → CommonDenominator D (reverse xs) → CommonDenominator D xs
multiple-reverse D xs m = subst (λ (z : List Fraction). CommonDenominator D z) (reverse-reverse xs) (multiple-back D (reverse xs) [] m tt)

follows-turn : (w : Direction) (x y : Fraction) → Follows w x y → Follows (turn w) y x
follows-turn increasing x y h = h
follows-turn decreasing x y h = h

ordered-back : (w : Direction) (y : Fraction) (ys zs : List Fraction) → OrderedFrom w y ys → OrderedFrom (turn w) y zs → Ordered (turn w) (reverse_aux ys (y ∷ zs))
ordered-back w y [] zs r f = f
ordered-back w y (x ∷ ys) zs r f = ordered-back w x ys (y ∷ zs) r.1 (follows-turn w y x r.0, f)

ordered-reverse : (w : Direction) (ys : List Fraction) → Ordered w ys → Ordered (turn w) (reverse ys)
ordered-reverse w [] r = tt
ordered-reverse w (y ∷ ys) r = ordered-back w y ys [] r tt

ordered-again : (w : Direction) (ys : List Fraction) → Ordered (turn w) ys → Ordered w (reverse ys)
ordered-again increasing ys r = ordered-reverse decreasing ys r
ordered-again decreasing ys r = ordered-reverse increasing ys r

sum_back : (D : ℕ) (xs ys : List Fraction) → sum_of D (reverse_aux xs ys) ≡ sum_of D xs +ℤ sum_of D ys
sum_back D [] ys = sym (+ℤ_idl (sum_of D ys))
sum_back D (x ∷ xs) ys =
    sum_back D xs (x ∷ ys) ∙ sym (+ℤ_assoc (sum_of D xs) (times D x) (sum_of D ys)) ∙ ap (λ (z : ℤ). z +ℤ sum_of D ys) (+ℤ_comm (sum_of D xs) (times D x))

sum-reverse : (D : ℕ) (xs : List Fraction) → sum_of D (reverse xs) ≡ sum_of D xs
sum-reverse D xs = sum_back D xs [] ∙ +ℤ_idr (sum_of D xs)

error-back : (D : ℕ) (h g : List ℕ) (y z : List Fraction) → length y ≡ length h → error D (reverse_aux h g) (reverse_aux y z) ≡ error D h y + error D g z
error-back D [] g [] z e = omega arith
error-back D [] g (y ∷ ys) z e = absurd (omega arith)
error-back D (x ∷ h) g [] z e = absurd (omega arith)
error-back D (x ∷ h) g (y ∷ ys) z e = omega (arith, error-back D h (x ∷ g) ys (y ∷ z) (omega arith))

error-reverse : (D : ℕ) (h : List ℕ) (y : List Fraction) → length y ≡ length h → error D (reverse h) (reverse y) ≡ error D h y
error-reverse D h y e = omega (arith, error-back D h [] y [] e)

-- ---- the fit of the blocks turned round is the fit turned round
pub fit-back : (bs cs : List Block) → fit (reverse_aux bs cs) ≡ reverse_aux (fit bs) (fit cs)
fit-back [] cs = refl
fit-back (b ∷ bs) cs = fit-back bs (b ∷ cs) ∙ sym (replicate-back b.len (mean b) (fit bs) (fit cs))

-- ---- the mirror image of the best is the best
mirror-index : (n i : ℕ) → i < n → n - suc (n - suc i) ≡ i
mirror-index n i h = omega arith

pub mirror-best : (w : Direction) (h : List ℕ) (f : List Fraction) → Best w (reverse h) f → Best (turn w) h (reverse f)
mirror-best w h f k = record {
  same_length = length-reverse f ∙ k.same_length ∙ length-reverse h;
  positive = proper-back f [] k.positive tt;
  monotone = ordered-reverse w f k.monotone;
  same_total = λ D some m. sum-reverse D f ∙ k.same_total D some (multiple-reverse D f m) ∙ ap (λ (n : ℕ). pos (n * D)) (total-reverse h);
  least_error = λ y hl py oy i hi differ D some mf my.
      let fl : length f ≡ length h = k.same_length ∙ length-reverse h in
      let e₁ : at (reverse f) i ≡ at f (length h - suc i) = at-reverse f i (omega arith) ∙ ap (λ (n : ℕ). at f (n - suc i)) fl in
      let e₂ : at (reverse y) (length h - suc i) ≡ at y i =
      at-reverse y (length h - suc i) (omega arith) ∙ ap (λ (n : ℕ). at y (n - suc (length h - suc i))) hl ∙ ap (λ (n : ℕ). at y n) (mirror-index (length h) i hi) in
      let r : error D (reverse h) f < error D (reverse h) (reverse y) =
      k.least_error (reverse y) (length-reverse y ∙ hl ∙ sym (length-reverse h)) (proper-back y [] py tt) (ordered-again w y oy) (length h - suc i) (omega (arith, length-reverse h))
      (λ c. differ (subst (λ (z : Fraction). z ≈ at y i) (sym e₁) (subst (λ (z : Fraction). at f (length h - suc i) ≈ z) e₂ c)))
      D some (multiple-reverse D f mf) (multiple-back D y [] my tt) in
      omega (arith, error-reverse D h y hl, error-reverse' D h f k.same_length);
}
  where
    error-reverse' : (D : ℕ) (h : List ℕ) (f : List Fraction) → length f ≡ length (reverse h) → error D h (reverse f) ≡ error D (reverse h) f
    error-reverse' D h f e =
        subst (λ (z : List ℕ). error D z (reverse f) ≡ error D (reverse h) f) (reverse-reverse h) (error-reverse D (reverse h) f e)
