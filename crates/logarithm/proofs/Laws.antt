-- Laws of the worker that the code's proofs and its callers cite. Assumes nothing.
use Prim.Native.Nat.{ℕ, zero, suc, ◌+◌, ◌*◌, ◌-◌, ◌%◌, ◌^◌, ◌≤◌, ◌<◌}
use mathlib.Core.Path.{◌≡◌, refl, sym, ap, ◌∙◌}
use lib.Dec.{lit<}
use lib.Count.{count_leading_zeros, leading_top}
use lib.Pow.{pow_pos, pow_mono}
use native.Mathlib.Omega.{arith}
use native.Mathlib.Numerals.{add-one}
use native.Mathlib.Nat.{mod-eq_of_lt, lt_of_le_of_lt, lt_of_lt_of_le, le_of_eq, pow-lt-pow_left, mul-lt-mul_of_pos_right, mul-le-mul_left, le_of_lt}
use Rattle.lists.proofs.Powers.{pow-pow, pow_lt_cancel}
use Rattle.logarithm.specs.declared.Logarithm.{Logarithm}
use Rattle.logarithm.specs.Log.{Loggable, round_count, units_per_bit, floor_log, lg}
use Rattle.logarithm.specs.Worker.{Ready, start, round, after}
use Rattle.logarithm.proofs.Within.{floor-is, floor-le, floor-unique, after-start, after-low, always-bounded}

-- a number shifted by its leading zeros is the number scaled to 32 bits
pub start-shift : (x : ℕ) → Loggable x
    → record { mantissa = x * 2 ^ (count_leading_zeros 64 x - 32) % 2 ^ 64; bits = 63 - count_leading_zeros 64 x } ≡ start x
unfolding start after
start-shift x v =
    let t = leading_top 64 x v.low (omega arith) in
    let f = floor_log 31 x in
    let l : f ≤ 31 = floor-le 31 x in
    let e : t.0 ≡ f = floor-unique x t.0 f (record { least = t.2; most = t.3 }) (floor-is 31 x v.low v.high) in
    let z : count_leading_zeros 64 x ≡ 63 - f = omega (arith, t.1) in
    let shift : count_leading_zeros 64 x - 32 ≡ 31 - f = omega arith in
    let whole : 63 - count_leading_zeros 64 x ≡ f = omega arith in
    let below : x * 2 ^ (31 - f) < 2 ^ 31 * 2 = (after-start x 0 v).below in
    let fits : x * 2 ^ (31 - f) % 2 ^ 64 ≡ x * 2 ^ (31 - f) = mod-eq_of_lt (omega arith) in
    rw (whole, shift, fits) refl

-- the leading zeros of a number of 1 to 32 bits
pub zeros-range : (x : ℕ) → Loggable x → (32 ≤ count_leading_zeros 64 x) × (count_leading_zeros 64 x ≤ 63)
zeros-range x v =
    let t = leading_top 64 x v.low (omega arith) in
    (omega (arith, t.1, pow_lt_cancel t.0 32 (lt_of_le_of_lt t.2 v.high)), omega (arith, t.1))

-- the square of a mantissa
pub square-fits : (m : ℕ) → m < 2 ^ 32 → m * m < 2 ^ 64
square-fits m h = lt_of_le_of_lt (mul-le-mul_left m (le_of_lt h)) (mul-lt-mul_of_pos_right h (lit< tt))

-- bits whose power is at most a power of a number below 2^32
bits_below : (x k b : ℕ) → x < 2 ^ 32 → 0 < k → 2 ^ b ≤ x ^ k → b < 32 * k
bits_below x k b h p l =
    pow_lt_cancel b (32 * k) (lt_of_le_of_lt l (lt_of_lt_of_le (pow-lt-pow_left h (λ e. omega arith)) (le_of_eq (pow-pow 2 32 k))))

-- one round more is the same first or last
after-round : (n : ℕ) (s : Logarithm) → after n (round s) ≡ round (after n s)
unfolding after
after-round zero s = refl
after-round (suc n) s = after-round n (round s)

-- ---- a worker on x after n rounds: it can do one more, and then it has done n + 1
pub ready-after : (x n : ℕ) → Loggable x → n < round_count → Ready (after n (start x))
unfolding round_count
ready-after x n v l =
    let w = after-start x n v in
    record {
      low = w.above;
      high = w.below;
      room = omega (arith, bits_below x (2 ^ n) (after n (start x)).bits v.high (pow_pos n) (after-low x n v), pow_mono (le_of_lt l));
    }

pub round-after : (x n : ℕ) → round (after n (start x)) ≡ after (n + 1) (start x)
unfolding after
round-after x n = sym (after-round n (start x)) ∙ ap (λ (k : ℕ). after k (start x)) (sym (add-one n))

pub units-positive : 0 < units_per_bit
unfolding units_per_bit
units-positive = pow_pos round_count

-- a logarithm is below that of 2^32
pub lg-below : (x : ℕ) → Loggable x → lg x < 32 * units_per_bit
lg-below x v = bits_below x units_per_bit (lg x) v.high units-positive (always-bounded x v).low
