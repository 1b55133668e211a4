-- What the threshold of a best weight spares, and that the figures of the test fit. Assumes nothing.
use Prim.Native.Nat.{ℕ, zero, suc, ◌+◌, ◌*◌, ◌-◌, ◌/◌, ◌%◌, ◌^◌, ◌≤◌, ◌<◌}
use mathlib.Core.Path.{◌≡◌, refl, ap}
use mathlib.Core.Bool.{true}
use mathlib.Core.Logic.{⊎_elim}
use lib.IntN.{ℤ, pos}
use lib.Signed.{◌≤ℤ◌}
use lib.Pow.{pow-add, pow_pos}
use native.Mathlib.Omega.{arith}
use Rattle.std.specs.Prelude.{min}
use Rattle.std.proofs.Math.Nat.{min-le_left, min-le_right}
use native.Mathlib.Nat.{mul_comm, zero-mul, le_trans, le_of_eq, lt_of_lt_of_le, mul-le-mul, mul-le-mul_right, mul-pos, div-mul-le_self, mod-le, zero-div}
use borrow.Author.Tests.{leb-true}
use Rattle.lists.proofs.Connectives.{either_true}
use Rattle.lists.proofs.Signed.{le-trans-ℤ}
use Rattle.logarithm.specs.Log.{units_per_bit}
use Rattle.verdict.specs.declared.Mass.{Mass}
use Rattle.verdict.specs.declared.Threshold.{Threshold}
use Rattle.verdict.specs.Test.{weight}
use Rattle.verdict.specs.Exactness.{observed, expected, LogsDefined}
use Rattle.verdict.specs.Near.{gap, fitted_room, count_room, is_small, is_near}
use Rattle.verdict.proofs.Terms.{weight-zero}
use Rattle.verdict.proofs.Range.{positive-left, four-product}
use Rattle.verdict.proofs.Steps.{steps, steps_twice}
use Rattle.verdict.proofs.NearWeight.{observed-one, observed-steps, near-weight}

-- ---- the figures of the test
-- D, of two numbers whose sum is below 2^32
pub room_small : (a b : ℕ) → a ≤ b → b < 2 ^ 32 → a * (b - a) < 2 ^ 62
room_small a b l h =
    let all : a + (b - a) ≡ b = omega arith in
    let u : b ≤ 2 ^ 32 - 1 = omega arith in
    let s : b * b ≤ (2 ^ 32 - 1) * (2 ^ 32 - 1) = mul-le-mul u u in
    let t : 4 * (a * (b - a)) ≤ b * b = rw all at (four-product a (b - a)) in
    omega arith

-- d·(d + 1)
pub steps-fit : (d : ℕ) → d < 2 ^ 32 → d * (d + 1) < 2 ^ 64
steps-fit d h =
    let u : d ≤ 2 ^ 32 - 1 = omega arith in
    let v : d + 1 ≤ 2 ^ 32 = omega arith in
    let s : d * (d + 1) ≤ (2 ^ 32 - 1) * 2 ^ 32 = mul-le-mul u v in
    omega arith

-- ---- a test that is met by a number other than 0: the room and the factor are not 0, and s·16·2^t ≤ room·c
module _ (s room : ℕ) (t : Threshold) (some : 0 < s) (met : is_small s room t ≡ true) where
  scaled : s * 2 ^ t.shift ≤ room / 2 ^ 4 * t.factor
  scaled =
      le_trans (mul-le-mul_right (2 ^ t.shift) (leb-true s (room / 2 ^ 4 * t.factor / 2 ^ t.shift) met))
      (div-mul-le_self (room / 2 ^ 4 * t.factor) (2 ^ t.shift))

  near-enough : s * (16 * 2 ^ t.shift) ≤ room * t.factor
  near-enough =
      let whole : room / 2 ^ 4 * 16 ≤ room = div-mul-le_self room 16 in
      le_trans (le_of_eq (turned s (2 ^ t.shift)))
      (le_trans (mul-le-mul_right 16 scaled)
      (le_trans (le_of_eq (moved (room / 2 ^ 4) t.factor)) (mul-le-mul_right t.factor whole)))
    where
      turned : (s q : ℕ) → s * (16 * q) ≡ s * q * 16
      turned s q = omega arith

      moved : (x c : ℕ) → x * c * 16 ≡ x * 16 * c
      moved x c = omega arith

  some-product : 0 < room * t.factor
  some-product = let q : 0 < 16 * 2 ^ t.shift = omega (arith, pow_pos t.shift) in lt_of_lt_of_le (mul-pos some q) near-enough

  some-room : 0 < room
  some-room = positive-left room t.factor some-product

  some-factor : 0 < t.factor
  some-factor = positive-left t.factor room (lt_of_lt_of_le some-product (le_of_eq (mul_comm room t.factor)))

-- ---- 1 + .. + d as the code has it
steps-half : (d : ℕ) → d * (d + 1) / 2 ≡ steps d
steps-half d = omega (arith, steps_twice d)

steps-some : (d : ℕ) → 0 < d → 0 < steps d
steps-some d h = omega (arith, steps_twice d, mul-pos h h)

-- ---- what is spared, where a weight b lies `above` over 2n, and the threshold comes from that
module _ (n above : ℕ) (t : Threshold) (b : ℤ) (least : pos 0 ≤ℤ b) (reached : 0 < above → pos (above + 2 * n) ≤ℤ b)
    (most : 3 * (t.factor * (n * units_per_bit)) ≤ above * (2 ^ t.shift * 32)) (some : 0 < t.factor → 0 < above) where
  module _ (k : ℕ) (m : Mass) (r : LogsDefined n k m) where
    -- a number s small beside a room M
    spared-by : (M s : ℕ) → 0 < s → is_small s M t ≡ true → (0 < M → observed n k m * M ^ (s * n) ≤ expected n k m * suc M ^ (s * n)) → weight n k m ≤ℤ b
    spared-by M s p e h =
        let M-some = some-room s M t p e in
        le-trans-ℤ (weight n k m) (pos (above + 2 * n)) b
        (near-weight n k m r M s (2 ^ t.shift) t.factor (above + 2 * n) (pow_pos t.shift) M-some (h M-some) (near-enough s M t p e) (omega arith))
        (reached (some (some-factor s M t p e)))

    apart_by : (d : ℕ) → gap k m ≡ d → is_near n k m t ≡ true → weight n k m ≤ℤ b
    unfolding is_near
    apart_by zero z e = rw (weight-zero n k m (omega arith) r.partial) least
    apart_by (suc d) z e =
        let p : 0 < gap k m = omega arith in
        let M = min (fitted_room n m) (count_room n k m) in
        ⊎_elim
        (λ f. spared-by (fitted_room n m) (gap k m * gap k m) (mul-pos p p) f (observed-one n k m r))
        (λ f. spared-by M (steps (gap k m)) (steps-some (gap k m) p) (rw (steps-half (gap k m)) at f)
        (λ q. observed-steps n k m r M q (min-le_left (fitted_room n m) (count_room n k m)) (min-le_right (fitted_room n m) (count_room n k m))))
        (either_true (is_small (gap k m * gap k m) (fitted_room n m) t) (is_small (gap k m * (gap k m + 1) / 2) M t) e)

  pub spared : (k : ℕ) (m : Mass) → LogsDefined n k m → is_near n k m t ≡ true → weight n k m ≤ℤ b
  spared k m r e = apart_by k m r (gap k m) refl e

-- the factor is at most the quotient of what the weight is above 2n, shifted, and 3·n·units + 1
pub factor-least : (n c t exact x : ℕ) → c ≤ x / (3 * n * units_per_bit + 1) → x ≡ exact * 2 ^ (t + 5) % 2 ^ 64 → 3 * (c * (n * units_per_bit)) ≤ exact * (2 ^ t * 32)
factor-least n c t exact x h e =
    let u = units_per_bit in
    let a : c * (3 * n * u + 1) ≤ x / (3 * n * u + 1) * (3 * n * u + 1) = mul-le-mul_right (3 * n * u + 1) h in
    let b : x / (3 * n * u + 1) * (3 * n * u + 1) ≤ x = div-mul-le_self x (3 * n * u + 1) in
    let f : exact * 2 ^ (t + 5) % 2 ^ 64 ≤ exact * 2 ^ (t + 5) = mod-le (exact * 2 ^ (t + 5)) (2 ^ 64) in
    let g : exact * 2 ^ (t + 5) ≡ exact * (2 ^ t * 32) = ap (λ (z : ℕ). exact * z) (pow-add 2 t 5) in
    omega arith

pub factor-some : (c d exact t : ℕ) → c ≤ exact * 2 ^ t % 2 ^ 64 / d → 0 < c → 0 < exact
factor-some c d exact t h some = go exact refl
  where
    go : (x : ℕ) → exact ≡ x → 0 < x
    go zero e = absurd (none (rw (e, zero-mul) at h))
      where
        none : c ≤ 0 % 2 ^ 64 / d → ⊥
        none l = omega (arith, rw zero-div at l)
    go (suc x) e = omega arith
