-- A factor of 2 adds one bit to a logarithm: the scaled number is the same, and what the rounds add does not depend on the start. Assumes nothing.
use Prim.Native.Nat.{ℕ, zero, suc, ◌+◌, ◌*◌, ◌-◌, ◌/◌, ◌%◌, ◌^◌, ◌≤◌, ◌<◌}
use mathlib.Core.Path.{◌≡◌, refl, sym, ap, ap₂, ◌∙◌}
use mathlib.Core.Bool.{Bool, true, false, cond, not}
use lib.Dec.{leb}
use lib.Count.{count_trailing_zeros, under}
use lib.Pow.{pow-add, pow_pos}
use native.Mathlib.Omega.{arith}
use native.Mathlib.Nat.{add-mul, mul_assoc, mul_comm, mul-one, pow-suc, pow-zero, le_of_eq, le_trans, lt_of_lt_of_le, lt_of_le_of_lt, mul-le-mul_right, mul-lt-mul_of_pos_right, div-one, div-div-eq-div-mul, div-add-mod'}
use Rattle.std.proofs.lemmas.Bool.{not-false}
use borrow.Author.Tests.{leb-true}
use Rattle.lists.proofs.Powers.{pow_lt_cancel}
use Rattle.logarithm.specs.Log.{Loggable, round_count, units_per_bit, floor_log, rounds, lg}
use Rattle.logarithm.specs.Bounds.{TwosAddBits}
use Rattle.logarithm.specs.Sheet.{sheet_size, twos_of, odd_part, on_sheet}
use Rattle.logarithm.proofs.Within.{Floor, floor-is, floor-le, floor-unique}

-- the rounds only add to what they start from
rounds-add : (n y l c : ℕ) → rounds n y (l + c) ≡ rounds n y l + c
unfolding rounds
rounds-add zero y l c = refl
rounds-add (suc n) y l c = go (leb (2 ^ 63) (y * y)) (λ m k. rounds-add n m k c)
  where
    go : (t : Bool) → ((m k : ℕ) → rounds n m (k + c) ≡ rounds n m k + c)
        → cond t (rounds n (y * y / 2 ^ 32) (l + c + 2 ^ n)) (rounds n (y * y / 2 ^ 31) (l + c))
        ≡ cond t (rounds n (y * y / 2 ^ 32) (l + 2 ^ n)) (rounds n (y * y / 2 ^ 31) l) + c
    go true ih = ap (λ (k : ℕ). rounds n (y * y / 2 ^ 32) k) (omega arith) ∙ ih (y * y / 2 ^ 32) (l + 2 ^ n)
    go false ih = ih (y * y / 2 ^ 31) l

-- as many factors of 2 raise the floor by as many
floor-twos : (y z f : ℕ) → Floor y f → Floor (y * 2 ^ z) (f + z)
floor-twos y z f i =
    record {
      least = le_trans (le_of_eq (pow-add 2 f z)) (mul-le-mul_right (2 ^ z) i.least);
      most = lt_of_lt_of_le (mul-lt-mul_of_pos_right i.most (pow_pos z)) (le_of_eq (sym (pow-add 2 (suc f) z) ∙ ap (λ (k : ℕ). 2 ^ k) (omega arith)));
    }

-- and leave the scaled number
scaled-twos : (y z f : ℕ) → f + z ≤ 31 → y * 2 ^ z * 2 ^ (31 - (f + z)) ≡ y * 2 ^ (31 - f)
scaled-twos y z f l =
    mul_assoc y (2 ^ z) (2 ^ (31 - (f + z))) ∙ ap (λ (k : ℕ). y * k) (sym (pow-add 2 z (31 - (f + z))) ∙ ap (λ (k : ℕ). 2 ^ k) (omega arith))

-- a factor of a number below a bound
factor-some : (q p n : ℕ) → q * p ≡ n → 1 ≤ n → 1 ≤ q
factor-some zero p n e h = omega (arith, e)
factor-some (suc q) p n e h = omega arith

factor-le : (q p n : ℕ) → q * p ≡ n → 1 ≤ n → p ≤ n
factor-le zero p n e h = omega (arith, e)
factor-le (suc q) p n e h = omega (arith, e)

pub twos-add-bits : TwosAddBits
unfolding lg
twos-add-bits y z v =
    let x = y * 2 ^ z in
    let f = floor_log 31 y in
    let some : 1 ≤ y = factor-some y (2 ^ z) x refl v.low in
    let small : y < 2 ^ 32 = lt_of_le_of_lt (factor-le (2 ^ z) y x (mul_comm (2 ^ z) y) v.low) v.high in
    let e : floor_log 31 x ≡ f + z = floor-unique x (floor_log 31 x) (f + z) (floor-is 31 x v.low v.high) (floor-twos y z f (floor-is 31 y some small)) in
    let l : f + z ≤ 31 = le_trans (le_of_eq (sym e)) (floor-le 31 x) in
    ap (λ (g : ℕ). rounds round_count (x * 2 ^ (31 - g)) (g * units_per_bit)) e
    ∙ ap₂ (λ (m k : ℕ). rounds round_count m k) (scaled-twos y z f l) (add-mul f z units_per_bit)
    ∙ rounds-add round_count (y * 2 ^ (31 - f)) (f * units_per_bit) (z * units_per_bit)

-- a number is what is left without its trailing zeros, times that power of 2
trailing-whole : (k n : ℕ) → n / 2 ^ count_trailing_zeros k n * 2 ^ count_trailing_zeros k n ≡ n
unfolding count_trailing_zeros
trailing-whole zero n = rw (pow-zero, div-one, mul-one) refl
trailing-whole (suc k) n = go (n % 2) refl (trailing-whole k (n / 2))
  where
    go : (d : ℕ) → n % 2 ≡ d → n / 2 / 2 ^ count_trailing_zeros k (n / 2) * 2 ^ count_trailing_zeros k (n / 2) ≡ n / 2
        → n / 2 ^ under d (count_trailing_zeros k (n / 2)) * 2 ^ under d (count_trailing_zeros k (n / 2)) ≡ n
    go zero e h =
        let t = 2 ^ count_trailing_zeros k (n / 2) in
        ap (λ (p : ℕ). n / p * p) (pow-suc 2 (count_trailing_zeros k (n / 2)) ∙ mul_comm t 2)
        ∙ ap₂ (λ (q p : ℕ). q * p) (sym (div-div-eq-div-mul n 2 t)) (mul_comm 2 t)
        ∙ sym (mul_assoc (n / 2 / t) t 2)
        ∙ ap (λ (m : ℕ). m * 2) h
        ∙ omega (arith, div-add-mod' n 2)
    go (suc d) e h = rw (pow-zero, div-one, mul-one) refl

-- a number is its odd part times a power of 2
pub odd-twos : (x : ℕ) → odd_part x * 2 ^ twos_of x ≡ x
unfolding odd_part
odd-twos x = trailing-whole 64 x

-- a number that the sheet gives the logarithm of
pub on-sheet-le : (x : ℕ) → not (on_sheet x) ≡ false → odd_part x ≤ sheet_size
unfolding on_sheet
on-sheet-le x e = leb-true (odd_part x) sheet_size (not-false (leb (odd_part x) sheet_size) e)

module _ (x : ℕ) (v : Loggable x) where
  -- the odd part is 1 or more
  pub odd-some : 1 ≤ odd_part x
  odd-some = factor-some (odd_part x) (2 ^ twos_of x) x (odd-twos x) v.low

  -- a number below 2^32 has fewer than 32 factors of 2
  pub twos-few : twos_of x < 32
  twos-few = pow_lt_cancel (twos_of x) 32 (lt_of_le_of_lt (factor-le (odd_part x) (2 ^ twos_of x) x (odd-twos x) v.low) v.high)

  -- the logarithm of a number, by that of its odd part
  pub lg-odd : lg (odd_part x) + twos_of x * units_per_bit ≡ lg x
  lg-odd = sym (twos-add-bits (odd_part x) (twos_of x) (rw odd-twos v)) ∙ ap lg (odd-twos x)
