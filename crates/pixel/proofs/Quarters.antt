-- A hue point turned back, by its quarter. Assumes nothing.
use Prim.Native.Nat.{ℕ, ◌+◌, ◌*◌, ◌-◌, ◌≤◌, ◌<◌}
use mathlib.Core.Path.{◌≡◌, refl, ◌∙◌}
use mathlib.Core.Bool.{Bool, true, false, cond, not, beq, ◌&&◌, and-false}
use lib.Dec.{leb, ltb}
use lib.IntN.{pos, sub_ℕ, neg_ℤ-neg_ℤ}
use native.Mathlib.Omega.{arith}
use native.Mathlib.Nat.{mul-sub, le_of_lt}
use borrow.Author.Tests.{ltb-true, ltb-false, leb-true, leb-false, lt-ltb, le-ltb, le-leb}
use Rattle.lists.proofs.Cases.{by_cond}
use Rattle.lists.proofs.Differences.{diff-positive, diff-nonnegative, diff-negative, diff-nonpositive, diff-above, diff-below}
use Rattle.pixel.specs.declared.Pixel.{Pixel}
use Rattle.pixel.specs.Colour.{Point, hue_point, quarter, turned_back, turned_of}

-- c lies in quarter q, and that many quarter turns back is (a, b)
pub record Turns (c : Point) (q a b : ℕ) : Type 0 where
  pub lies : quarter c ≡ q
  pub back : turned_back q c ≡ record { x = pos a; y = pos b }

pub turned-of : (c : Point) (q a b : ℕ) → Turns c q a b → turned_of c ≡ record { quarter = q; a = a; b = b }
unfolding turned_of
turned-of c q a b t = rw (t.lies, t.back)

-- ---- the point (m − n, k − l)
abbrev point : ℕ → ℕ → ℕ → ℕ → Point
point m n k l = record { x = sub_ℕ m n; y = sub_ℕ k l }

module _ (m n k l : ℕ) where
  quarter-tests : quarter (point m n k l) ≡ cond (ltb n m && leb l k) 0 (cond (leb m n && ltb l k) 1 (cond (ltb m n && leb k l) 2 3))
  unfolding quarter
  quarter-tests = rw (diff-positive m n, diff-nonnegative k l, diff-nonpositive m n, diff-positive k l, diff-negative m n, diff-nonpositive k l)

  turns-0 : n < m → l ≤ k → Turns (point m n k l) 0 (m - n) (k - l)
  unfolding turned_back
  turns-0 h j = record {
    lies = quarter-tests ∙ rw (lt-ltb n m, le-leb l k);
    back = rw (diff-above m n (omega arith), diff-above k l);
  }

  turns-1 : m ≤ n → l < k → Turns (point m n k l) 1 (k - l) (n - m)
  unfolding turned_back
  turns-1 h j = record {
    lies = quarter-tests ∙ rw (le-ltb n m, le-leb m n, lt-ltb l k);
    back = rw (diff-below m n, diff-above k l (omega arith));
  }

  turns-2 : m < n → k ≤ l → Turns (point m n k l) 2 (n - m) (l - k)
  unfolding turned_back
  turns-2 h j = record {
    lies = quarter-tests ∙ rw (le-ltb n m (omega arith), le-leb m n (omega arith), le-ltb l k, lt-ltb m n, le-leb k l);
    back = rw (diff-below m n (omega arith), diff-below k l);
  }

  -- the origin too
  turns-3 : n ≤ m → k ≤ l → (l ≤ k → m ≤ n) → Turns (point m n k l) 3 (l - k) (m - n)
  unfolding turned_back
  turns-3 h j f = record {
    lies = quarter-tests ∙ rw (first (leb l k) refl, le-ltb l k, and-false, le-ltb m n);
    back = rw (diff-below k l, neg_ℤ-neg_ℤ (sub_ℕ m n), diff-above m n);
  }
    where
      first : (t : Bool) → leb l k ≡ t → ltb n m && leb l k ≡ false
      first true e = rw (le-ltb n m (f (leb-true l k e)))
      first false e = rw e (and-false (ltb n m))

-- ---- halves: of the point (g − b, s − t)
apart_above : (m n : ℕ) → n ≤ m → m - n + (n - m) ≡ m - n
apart_above m n h = omega arith

apart_below : (m n : ℕ) → m ≤ n → m - n + (n - m) ≡ n - m
apart_below m n h = omega arith

-- the 1 that decides a tie, as arithmetic
one-is : (x bar : ℕ) → cond (leb bar x) 1 0 ≡ 1 - (bar - x)
one-is x bar = by_cond (λ (n : ℕ). n ≡ 1 - (bar - x)) (leb bar x) 1 0 (λ e. omega (arith, leb-true bar x e)) (λ e. omega (arith, leb-false bar x e))

module _ (g b s t x y : ℕ) (ex : x ≡ cond (leb (b + 1) g) 1 0) (ey : y ≡ cond (leb s t) 1 0) where
  x-is : x ≡ 1 - (b + 1 - g)
  x-is = ex ∙ one-is g (b + 1)

  y-is : y ≡ 1 - (s - t)
  y-is = ey ∙ one-is t s

  upper-right : t < s + x → b < g + y → (b < g) × (t ≤ s)
  upper-right w l = (omega (arith, x-is, y-is), omega (arith, x-is, y-is))

  upper-left : t < s + x → g + y ≤ b → (g ≤ b) × (t < s)
  upper-left w l = (omega (arith, x-is, y-is), omega (arith, x-is, y-is))

  lower-left : s + x ≤ t → g + y ≤ b → (g < b) × (s ≤ t)
  lower-left w l = (omega (arith, x-is, y-is), omega (arith, x-is, y-is))

  -- the origin too
  lower-right : s + x ≤ t → b < g + y → (b ≤ g) × (s ≤ t) × (t ≤ s → g ≤ b)
  lower-right w l = (omega (arith, x-is, y-is), omega (arith, x-is, y-is), λ e. omega (arith, x-is, y-is))

-- ---- the point of a pixel
module _ (p : Pixel) where
  pub hue-turns-0 : p.blue < p.green → 2 * p.red ≤ p.green + p.blue
      → Turns (hue_point p) 0 (1732051 * (p.green - p.blue)) (1000000 * (p.green + p.blue - 2 * p.red))
  unfolding hue_point
  hue-turns-0 h j =
      rw (mul-sub 1732051, mul-sub 1000000)
      (turns-0 (1732051 * p.green) (1732051 * p.blue) (1000000 * (p.green + p.blue)) (1000000 * (2 * p.red)) (omega arith) (omega arith))

  pub hue-turns-1 : p.green ≤ p.blue → 2 * p.red < p.green + p.blue
      → Turns (hue_point p) 1 (1000000 * (p.green + p.blue - 2 * p.red)) (1732051 * (p.blue - p.green))
  unfolding hue_point
  hue-turns-1 h j =
      rw (mul-sub 1732051, mul-sub 1000000)
      (turns-1 (1732051 * p.green) (1732051 * p.blue) (1000000 * (p.green + p.blue)) (1000000 * (2 * p.red)) (omega arith) (omega arith))

  pub hue-turns-2 : p.green < p.blue → p.green + p.blue ≤ 2 * p.red
      → Turns (hue_point p) 2 (1732051 * (p.blue - p.green)) (1000000 * (2 * p.red - (p.green + p.blue)))
  unfolding hue_point
  hue-turns-2 h j =
      rw (mul-sub 1732051, mul-sub 1000000)
      (turns-2 (1732051 * p.green) (1732051 * p.blue) (1000000 * (p.green + p.blue)) (1000000 * (2 * p.red)) (omega arith) (omega arith))

  pub hue-turns-3 : p.blue ≤ p.green → p.green + p.blue ≤ 2 * p.red → (2 * p.red ≤ p.green + p.blue → p.green ≤ p.blue)
      → Turns (hue_point p) 3 (1000000 * (2 * p.red - (p.green + p.blue))) (1732051 * (p.green - p.blue))
  unfolding hue_point
  hue-turns-3 h j f =
      rw (mul-sub 1732051, mul-sub 1000000)
      (turns-3 (1732051 * p.green) (1732051 * p.blue) (1000000 * (p.green + p.blue)) (1000000 * (2 * p.red)) (omega arith) (omega arith) (λ e. omega (arith, f (omega arith))))

  -- by the halves that it lies in, upper or lower and right or left
  pub turned-by-halves : (u v x y : ℕ) (upper right : Bool) → u ≡ 1732051 * (p.green - p.blue + (p.blue - p.green))
      → v ≡ 1000000 * (p.green + p.blue - 2 * p.red + (2 * p.red - (p.green + p.blue)))
      → x ≡ cond (leb (p.blue + 1) p.green) 1 0
      → y ≡ cond (leb (p.green + p.blue) (2 * p.red)) 1 0
      → ltb (2 * p.red) (p.green + p.blue + x) ≡ upper
      → ltb p.blue (p.green + y) ≡ right
      → let odd = not (beq upper right) in
      turned_of (hue_point p) ≡ record { quarter = cond upper 0 2 + cond odd 1 0; a = cond odd v u; b = cond odd u v }
  turned-by-halves u v x y true true eu ev ex ey i j =
      let o = upper-right p.green p.blue (p.green + p.blue) (2 * p.red) x y ex ey (ltb-true _ _ i) (ltb-true _ _ j) in
      rw (eu, ev, apart_above p.green p.blue (le_of_lt o.0), apart_above (p.green + p.blue) (2 * p.red) o.1)
      (turned-of (hue_point p) 0 _ _ (hue-turns-0 o.0 o.1))
  turned-by-halves u v x y true false eu ev ex ey i j =
      let o = upper-left p.green p.blue (p.green + p.blue) (2 * p.red) x y ex ey (ltb-true _ _ i) (ltb-false _ _ j) in
      rw (eu, ev, apart_below p.green p.blue o.0, apart_above (p.green + p.blue) (2 * p.red) (le_of_lt o.1))
      (turned-of (hue_point p) 1 _ _ (hue-turns-1 o.0 o.1))
  turned-by-halves u v x y false false eu ev ex ey i j =
      let o = lower-left p.green p.blue (p.green + p.blue) (2 * p.red) x y ex ey (ltb-false _ _ i) (ltb-false _ _ j) in
      rw (eu, ev, apart_below p.green p.blue (le_of_lt o.0), apart_below (p.green + p.blue) (2 * p.red) o.1)
      (turned-of (hue_point p) 2 _ _ (hue-turns-2 o.0 o.1))
  turned-by-halves u v x y false true eu ev ex ey i j =
      let o = lower-right p.green p.blue (p.green + p.blue) (2 * p.red) x y ex ey (ltb-false _ _ i) (ltb-true _ _ j) in
      rw (eu, ev, apart_above p.green p.blue o.0, apart_below (p.green + p.blue) (2 * p.red) o.1)
      (turned-of (hue_point p) 3 _ _ (hue-turns-3 o.0 o.1 o.2))
