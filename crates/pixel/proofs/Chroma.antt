-- Q: never negative, at most 65025 for bytes, a sum of two squares, and 0 if the hue point is the origin. Assumes nothing.
use Prim.Native.Nat.{ℕ, ◌+◌, ◌*◌, ◌-◌, ◌≤◌}
use mathlib.Core.Path.{◌≡◌}
use native.Mathlib.Omega.{arith}
use native.Mathlib.Nat.{mul-le-mul}
use Rattle.lists.proofs.Cases.{by_order}
use Rattle.pixel.specs.declared.Pixel.{Pixel}
use Rattle.pixel.specs.Colour.{chroma_squared}

-- 2ab ≤ a² + b²
twice-product : (a b : ℕ) → 2 * (a * b) ≤ a * a + b * b
twice-product a b = by_order a b (λ h. far a b (omega arith)) (λ h. omega (arith, far b a h))
  where
    far : (a b : ℕ) → a ≤ b → 2 * (a * b) ≤ a * a + b * b
    far a b h = let e : b ≡ a + (b - a) = omega arith in rw e (omega arith)

pub mixed-le : (r g b : ℕ) → r * g + g * b + b * r ≤ r * r + g * g + b * b
mixed-le r g b = omega (arith, twice-product r g, twice-product g b, twice-product b r)

-- three numbers up to m, in order
ordered : (a b c m : ℕ) → a ≤ b → b ≤ c → c ≤ m → a * a + b * b + c * c ≤ m * m + (a * b + b * c + c * a)
ordered a b c m h j l = apart (b - a) (c - b) (omega arith) (omega arith)
  where
    apart : (d e : ℕ) → b ≡ a + d → c ≡ a + d + e → a * a + b * b + c * c ≤ m * m + (a * b + b * c + c * a)
    apart d e p q = let k : d + e ≤ m = omega arith in let s = mul-le-mul k k in rw (q, p) (omega arith)

-- in any order
pub squares-le : (r g b m : ℕ) → r ≤ m → g ≤ m → b ≤ m → r * r + g * g + b * b ≤ m * m + (r * g + g * b + b * r)
squares-le r g b m hr hg hb =
    by_order r g
    (λ h. by_order g b
    (λ j. ordered r g b m (omega arith) (omega arith) hb)
    (λ j. by_order r b
    (λ k. omega (arith, ordered r b g m (omega arith) j hg))
    (λ k. omega (arith, ordered b r g m k (omega arith) hg))))
    (λ h. by_order r b
    (λ j. omega (arith, ordered g r b m h (omega arith) hb))
    (λ j. by_order g b
    (λ k. omega (arith, ordered g b r m (omega arith) j hr))
    (λ k. omega (arith, ordered b g r m k h hr))))

pub chroma-le : (p : Pixel) → p.red ≤ 255 → p.green ≤ 255 → p.blue ≤ 255 → chroma_squared p ≤ 65025
unfolding chroma_squared
chroma-le p hr hg hb = omega (arith, squares-le p.red p.green p.blue 255 hr hg hb)

-- one level of red, green and blue has no chroma
pub chroma-even : (p : Pixel) → p.green ≡ p.blue → 2 * p.red ≡ p.green + p.blue → chroma_squared p ≡ 0
unfolding chroma_squared
chroma-even p e f = let r : p.red ≡ p.blue = omega arith in rw (e, r) (omega arith)

-- ---- Q from how far apart G and B, and G + B and 2R, are
apart-squared : (m n : ℕ) → (m - n + (n - m)) * (m - n + (n - m)) + 2 * (m * n) ≡ m * m + n * n
apart-squared m n =
    by_order m n
    (λ h. let e : m - n + (n - m) ≡ n - m = omega arith in rw e (omega (arith, far n m (n - m) (omega arith))))
    (λ h. let e : m - n + (n - m) ≡ m - n = omega arith in rw e (far m n (m - n) (omega arith)))
  where
    far : (m n d : ℕ) → m ≡ n + d → d * d + 2 * (m * n) ≡ m * m + n * n
    far m n d e = rw e (omega arith)

pub chroma-fourfold : (p : Pixel) (x y : ℕ)
    → x ≡ p.green - p.blue + (p.blue - p.green)
    → y ≡ p.green + p.blue - 2 * p.red + (2 * p.red - (p.green + p.blue))
    → y * y + 3 * (x * x) ≡ 4 * chroma_squared p
unfolding chroma_squared
chroma-fourfold p x y ex ey =
    rw (ex, ey)
    (omega
    (arith, apart-squared p.green p.blue, apart-squared (p.green + p.blue) (2 * p.red), mixed-le p.red p.green p.blue))
