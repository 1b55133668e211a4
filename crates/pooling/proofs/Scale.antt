-- Fractions times a multiple of their denominators: order and value are those of the whole numbers. Assumes nothing.
use mathlib.Core.Path.{◌≡◌, refl, sym, ◌∙◌, ap}
use mathlib.Core.List.{List, [], ◌∷◌, map}
use Prim.Native.Nat.{ℕ, zero, suc, ◌+◌, ◌*◌, ◌/◌, ◌%◌, ◌≤◌, ◌<◌}
use native.Mathlib.Nat.{div-add-mod', mul-le-mul_right, le_of_mul-le-mul_left, eq_of_mul-eq-mul_left}
use native.Mathlib.Omega.{arith}
use lib.Dec.{le→leb}
use lib.IntN.{ℤ, pos, negsuc, neg_ℤ, ◌*ℤ◌}
use lib.Signed.{◌≤ℤ◌}
use Rattle.pooling.specs.Blocks.{increasing}
use Rattle.pooling.specs.Fraction.{Fraction, ◌≤Q◌, ◌≈◌, OrderedFrom, CommonDenominator, times}
use Rattle.pooling.proofs.Gap.{GrowsFrom, up, dn, le_up}

-- a common denominator divides without remainder
pub divides : (D d : ℕ) → D % d ≡ 0 → D / d * d ≡ D
divides D d e = omega (arith, div-add-mod' D d)

up_neg : (k : ℕ) → up (neg_ℤ (pos k)) ≡ 0
up_neg zero = refl
up_neg (suc k) = refl

dn-neg : (k : ℕ) → dn (neg_ℤ (pos k)) ≡ k
dn-neg zero = refl
dn-neg (suc k) = refl

up-times : (z : ℤ) (n : ℕ) → up (z *ℤ pos n) ≡ up z * n
up-times (pos a) n = refl
up-times (negsuc a) n = omega (arith, up_neg (suc a * n))

dn-times : (z : ℤ) (n : ℕ) → dn (z *ℤ pos n) ≡ dn z * n
dn-times (pos a) n = omega arith
dn-times (negsuc a) n = dn-neg (suc a * n)

up_le : (y z : ℤ) → up y + dn z ≤ up z + dn y → y ≤ℤ z
up_le (pos a) (pos b) h = record { le = le→leb a b (omega arith) }
up_le (pos a) (negsuc b) h = absurd (omega arith)
up_le (negsuc a) (pos b) h = record { le = tt }
up_le (negsuc a) (negsuc b) h = record { le = le→leb b a (omega arith) }

up-eq : (y z : ℤ) → up y ≡ up z → dn y ≡ dn z → y ≡ z
up-eq (pos a) (pos b) p q = ap pos p
up-eq (pos a) (negsuc b) p q = absurd (omega arith)
up-eq (negsuc a) (pos b) p q = absurd (omega arith)
up-eq (negsuc a) (negsuc b) p q = ap negsuc (omega arith)

cross-eq : (a c b d p r D : ℕ) → 0 < D → p * b ≡ D → r * d ≡ D → a * p ≡ c * r → a * d ≡ c * b
cross-eq a c b d p r D some hp hr e = eq_of_mul-eq-mul_left D some (a * d) (c * b)
    (omega (arith, ap (λ (z : ℕ). z * (a * d)) hp, ap (λ (z : ℕ). z * (c * b)) hr, ap (λ (z : ℕ). z * (b * d)) e))

cross-le : (a a' c c' b d p r D : ℕ) → 0 < D → p * b ≡ D → r * d ≡ D → a * d + c' * b ≤ c * b + a' * d → a * p + c' * r ≤ c * r + a' * p
cross-le a a' c c' b d p r D some hp hr h = le_of_mul-le-mul_left {k = D}
    (omega (arith, mul-le-mul_right (p * r) h, ap (λ (z : ℕ). z * (a * p)) hr, ap (λ (z : ℕ). z * (c' * r)) hp, ap (λ (z : ℕ). z * (c * r)) hp, ap (λ (z : ℕ). z * (a' * p)) hr)) some

-- the same number times D is the same fraction
pub same-of-times : (D : ℕ) (x y : Fraction) → 0 < D → D / x.den * x.den ≡ D → D / y.den * y.den ≡ D → times D x ≡ times D y → x ≈ y
same-of-times D x y some hx hy e = up-eq _ _
    (up-times x.num y.den ∙ cross-eq (up x.num) (up y.num) x.den y.den (D / x.den) (D / y.den) D some hx hy
    (sym (up-times x.num (D / x.den)) ∙ ap up e ∙ up-times y.num (D / y.den)) ∙ sym (up-times y.num x.den))
    (dn-times x.num y.den ∙ cross-eq (dn x.num) (dn y.num) x.den y.den (D / x.den) (D / y.den) D some hx hy
    (sym (dn-times x.num (D / x.den)) ∙ ap dn e ∙ dn-times y.num (D / y.den)) ∙ sym (dn-times y.num x.den))

pub times-le : (D : ℕ) (x y : Fraction) → 0 < D → D / x.den * x.den ≡ D → D / y.den * y.den ≡ D → x ≤Q y → times D x ≤ℤ times D y
times-le D x y some hx hy h = up_le _ _
    (simp (up-times, dn-times)
    (cross-le (up x.num) (dn x.num) (up y.num) (dn y.num) x.den y.den (D / x.den) (D / y.den) D some hx hy
    (simp (up-times, dn-times) at (le_up _ _ h))))

pub grows-times : (D : ℕ) → 0 < D → (y : Fraction) (ys : List Fraction) → D / y.den * y.den ≡ D → CommonDenominator D ys → OrderedFrom increasing y ys → GrowsFrom (times D y) (map (times D) ys)
grows-times D some y [] hy m r = tt
grows-times D some y (z ∷ zs) hy m r = let hz = divides D z.den m.0 in (times-le D y z some hy hz r.0, grows-times D some z zs hz m.1 r.1)
