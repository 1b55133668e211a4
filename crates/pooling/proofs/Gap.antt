-- Over the bins of one block, and then over all bins, a sequence that does not fall is farther from the counts than the fit is, at least by its distance from the fit. Assumes nothing.
use mathlib.Core.Path.{◌≡◌, ap, subst}
use mathlib.Core.List.{List, [], ◌∷◌, ◌++◌, map}
use Prim.Native.Nat.{ℕ, zero, suc, ◌+◌, ◌*◌, ◌-◌, ◌/◌, ◌≤◌}
use native.Mathlib.Nat.{mul-le-mul_left}
use native.Mathlib.Omega.{arith}
use lib.Dec.{ltb, leb→le}
use borrow.Author.Tests.{ltb-true, ltb-false}
use lib.IntN.{ℤ, pos, negsuc, sub_ℕ, ◌-ℤ◌}
use lib.Signed.{◌≤ℤ◌}
use lib.ListN.{length, replicate}
use Rattle.lists.proofs.Cases.{by_cond}
use Rattle.pooling.specs.Blocks.{Block}
use Rattle.pooling.specs.Fraction.{sq, squares, scaled}
use Rattle.pooling.proofs.Heavy.{back, Run, Cut, done, seg}

abbrev pub GrowsFrom : ℤ → List ℤ → Type 0
GrowsFrom y [] = Unit {0}
GrowsFrom y (z ∷ zs) = (y ≤ℤ z) × GrowsFrom z zs

-- the means of the blocks, each as often as its block is long, times D
abbrev pub levels : ℕ → List Block → List ℕ
levels D [] = []
levels D (b ∷ bs) = replicate b.len (b.sum * (D / b.len)) ++ levels D bs

-- a whole number is the difference of two natural ones
abbrev pub up : ℤ → ℕ
up (pos n) = n
up (negsuc n) = 0

abbrev pub dn : ℤ → ℕ
dn (pos n) = 0
dn (negsuc n) = suc n

sq-under : (a b k : ℕ) → k + suc a ≡ b → suc k * suc k + 2 * (a * b) ≡ a * a + b * b
sq-under a b k p = rw (← p) (omega arith)

sq-over : (a b k : ℕ) → k + b ≡ a → k * k + 2 * (a * b) ≡ a * a + b * b
sq-over a b k p = rw (← p) (omega arith)

sq-sub : (a b : ℕ) → sq (sub_ℕ a b) + 2 * (a * b) ≡ a * a + b * b
sq-sub a b =
    by_cond (λ (z : ℤ). sq z + 2 * (a * b) ≡ a * a + b * b) (ltb a b) (negsuc (b - suc a)) (pos (a - b))
    (λ e. sq-under a b (b - suc a) (back _ _ (ltb-true a b e))) (λ e. sq-over a b (a - b) (back _ _ (ltb-false a b e)))

pub sq-law : (n : ℕ) (z : ℤ) → sq (pos n -ℤ z) + 2 * (n * up z) + 2 * (up z * dn z) ≡ n * n + up z * up z + dn z * dn z + 2 * (n * dn z)
sq-law n (pos zero) = omega arith
sq-law n (pos (suc m)) = omega (arith, sq-sub n (suc m))
sq-law n (negsuc m) = omega arith

pub le_up : (y z : ℤ) → y ≤ℤ z → up y + dn z ≤ up z + dn y
le_up (pos a) (pos b) h = omega (arith, leb→le a b h.le)
le_up (pos a) (negsuc b) h = absurd h.le
le_up (negsuc a) (pos b) h = omega arith
le_up (negsuc a) (negsuc b) h = omega (arith, leb→le b a h.le)

-- one bin: H is its count, F the mean, u - v the sequence's number and u0 - v0 the one before, all times D; G is what the bins before had over the mean, and G' what they have with this one
bin-step : (H F u v u0 v0 G G' A B C P Q R : ℕ)
    → G' + F ≡ G + H → u0 + v ≤ u + v0
    → P + 2 * (H * F) + 2 * (F * 0) ≡ H * H + F * F + 0 * 0 + 2 * (H * 0)
    → Q + 2 * (F * u) + 2 * (u * v) ≡ F * F + u * u + v * v + 2 * (F * v)
    → R + 2 * (H * u) + 2 * (u * v) ≡ H * H + u * u + v * v + 2 * (H * v)
    → A + B + 2 * (G' * u) ≤ C + 2 * (G' * (v + F))
    → (P + A) + (Q + B) + 2 * (G * u0) ≤ (R + C) + 2 * (G * (v0 + F))
bin-step H F u v u0 v0 G G' A B C P Q R h_g m h_p h_q h_r ih =
    omega (arith, mul-le-mul_left G m, ap (λ (z : ℕ). z * u) h_g, ap (λ (z : ℕ). z * v) h_g, ap (λ (z : ℕ). z * F) h_g)

excess : (q l s D e e' x : ℕ) → q * l ≡ D → e' + s ≡ e + x * l → q * e' + s * q ≡ q * e + x * D
excess q l s D e e' x hq h = omega (arith, ap (λ (z : ℕ). q * z) h, ap (λ (z : ℕ). x * z) hq)

-- what is to be shown of the bins h, their fit fs and any sequence ys that does not fall and starts at y or above
abbrev pub Far : ℕ → List ℕ → List ℕ → Type 0
Far D h fs = (y : ℤ) (ys : List ℤ) → length ys ≡ length h → GrowsFrom y ys
    → squares (scaled D h) (map pos fs) + squares fs ys ≤ squares (scaled D h) ys

module _ (D q l s : ℕ) (hq : q * l ≡ D) (h : List ℕ) (fs : List ℕ) (rest : Far D h fs) where
  block-far : (xs : List ℕ) (e : ℕ) → Run l s e xs 0 → (y : ℤ) (ys : List ℤ) → length ys ≡ length (xs ++ h) → GrowsFrom y ys
      → squares (scaled D (xs ++ h)) (map pos (replicate (length xs) (s * q) ++ fs)) + squares (replicate (length xs) (s * q) ++ fs) ys + 2 * (q * e * up y)
      ≤ squares (scaled D (xs ++ h)) ys + 2 * (q * e * (dn y + s * q))
  block-far [] e r y ys hl g =
      omega (arith, rest y ys hl g, ap (λ (z : ℕ). q * z * up y) r, ap (λ (z : ℕ). q * z * (dn y + s * q)) r)
  block-far (x ∷ xs) e r y [] hl g = absurd (omega arith)
  block-far (x ∷ xs) e r y (z ∷ ys) hl g =
      bin-step (x * D) (s * q) (up z) (dn z) (up y) (dn y) (q * e) (q * (e + x * l - s)) _ _ _ _ _ _
      (excess q l s D e (e + x * l - s) x hq (back _ _ r.0)) (le_up y z g.0)
      (sq-law (x * D) (pos (s * q))) (sq-law (s * q) z) (sq-law (x * D) z)
      (block-far xs (e + x * l - s) r.1 z ys (omega arith) g.1)

-- D is a multiple of each block's length
abbrev pub Splits : ℕ → List Block → Type 0
Splits D [] = Unit {0}
Splits D (b ∷ bs) = (D / b.len * b.len ≡ D) × Splits D bs

pub cut-far : (D : ℕ) {h : List ℕ} {bs : List Block} → Cut h bs → Splits D bs → Far D h (levels D bs)
cut-far D done w y ys hl g = omega arith
cut-far D (seg {x = x} {h = h} {b = b} {bs = bs} p k) w y ys hl g =
    subst (λ (n : ℕ). squares (scaled D (x ++ h)) (map pos (replicate n (b.sum * (D / b.len)) ++ levels D bs)) + squares (replicate n (b.sum * (D / b.len)) ++ levels D bs) ys ≤ squares (scaled D (x ++ h)) ys) p.long
    (omega (arith, block-far D (D / b.len) b.len b.sum w.0 h (levels D bs) (λ y' ys' hl' g'. cut-far D k w.1 y' ys' hl' g') x 0 p.heavy y ys hl g))
