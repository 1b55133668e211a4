-- A number in its columns is read back. Assumes nothing.
use Prim.Native.Nat.{ℕ, zero, suc, ◌+◌, ◌*◌, ◌-◌, ◌/◌, ◌%◌, ◌≤◌, ◌<◌, ◌^◌}
use mathlib.Core.Path.{◌≡◌, refl, sym, ap, ◌∙◌}
use mathlib.Core.Bool.{true, false, ◌&&◌, and-false}
use mathlib.Core.List.{List, ◌∷◌}
use mathlib.Core.Option.{some}
use native.Mathlib.Omega.{arith}
use native.Mathlib.Nat.{pow-suc, pow-le-pow_right, mul-le-mul_right, div-add-mod, mod-lt, mod-one, mod-eq_of_lt, mul-add-mod_self_left, div-lt_iff_lt-mul, le-div_iff_mul-le}
use borrow.Author.Tests.{lt-ltb, le-ltb, le-leb, ne_eqb}
use lib.Dec.{ltb, eqb}
use lib.ListN.{length}
use Rattle.lists.proofs.Cases.{by_order}
use Rattle.swatch.specs.Input.{space, digit_zero, after_spaces, is_digit, decimal, numeral, field}
use Rattle.swatch.specs.Output.{printed_in}
use Rattle.swatch.specs.Written.{FieldRead}

-- ---- digits
-- the digit of 10^j
abbrev digit_of : ℕ → ℕ → ℕ
digit_of j v = v / 10 ^ j % 10

pub digit-small : (j v : ℕ) → digit_of j v < 10
digit-small j v = mod-lt (v / 10 ^ j) {m = 10} (omega arith)

power-some : (j : ℕ) → 0 < 10 ^ j
power-some j = omega (arith, pow-le-pow_right {n = 10} (omega arith) {i = 0} {j = j} (omega arith))

-- of a number with no more digits it is the first, which is not 0
first-digit : (j v : ℕ) → 10 ^ j ≤ v → v < 10 ^ suc j → 0 < digit_of j v
first-digit j v l h =
    let p = power-some j in
    let below : v / 10 ^ j < 10 = (div-lt_iff_lt-mul {x = v} p).1 (omega (arith, pow-suc 10 j)) in
    let above : 1 ≤ v / 10 ^ j = (le-div_iff_mul-le {x = 1} p).1 (omega arith) in
    rw (mod-eq_of_lt below) above

-- a digit of a number, and the digits after it
mod-more : (v p : ℕ) → 0 < p → v % (p * 10) ≡ v / p % 10 * p + v % p
mod-more v p z =
    let q = v / p in
    let parts : p * 10 * (q / 10) + (q % 10 * p + v % p) ≡ v = omega (arith, div-add-mod v p, ap (λ (z : ℕ). p * z) (div-add-mod q 10)) in
    let digit : q % 10 ≤ 9 = omega (arith, mod-lt q {m = 10} (omega arith)) in
    let small : q % 10 * p + v % p < p * 10 = omega (arith, mod-lt v z, mul-le-mul_right p digit) in
    ap (λ (z : ℕ). z % (p * 10)) (sym parts) ∙ mul-add-mod_self_left (p * 10) (q / 10) (q % 10 * p + v % p) ∙ mod-eq_of_lt small

-- ---- columns
-- the column of 10^j has its digit, or a space
digit-shown : (j v : ℕ) → (0 < j → 10 ^ j ≤ v) → printed_in (suc j) v ≡ (digit_zero + digit_of j v) ∷ printed_in j v
unfolding printed_in
digit-shown zero v h = refl
digit-shown (suc j) v h = rw (le-ltb v (10 ^ suc j) (h (omega arith)), and-false (ltb 0 (suc j)))

space-shown : (j v : ℕ) → 0 < j → v < 10 ^ j → printed_in (suc j) v ≡ space ∷ printed_in j v
unfolding printed_in
space-shown j v z h = rw (lt-ltb 0 j z, lt-ltb v (10 ^ j) h)

-- ---- numbers
digit-is : (d : ℕ) → d < 10 → is_digit (digit_zero + d) ≡ true
digit-is d h = rw (le-leb digit_zero (digit_zero + d) (omega arith), le-leb (digit_zero + d) (digit_zero + 9) (omega arith))

decimal-more : (u d : ℕ) (cs : List ℕ) → d < 10 → decimal u ((digit_zero + d) ∷ cs) ≡ decimal (10 * u + d) cs
unfolding decimal
decimal-more u d cs h = let e : digit_zero + d - digit_zero ≡ d = omega arith in rw (digit-is d h, e)

-- columns without spaces, behind the digits of u
decimal-read : (w u v : ℕ) → ((j : ℕ) → 0 < j → j < w → 10 ^ j ≤ v) → decimal u (printed_in w v) ≡ some (u * 10 ^ w + v % 10 ^ w)
unfolding printed_in decimal
decimal-read zero u v h = ap some (omega (arith, mod-one v))
decimal-read (suc w) u v h =
    let d = digit_of w v in
    ap (decimal u) (digit-shown w v (λ l. h w l (omega arith))) ∙ decimal-more u d (printed_in w v) (digit-small w v)
    ∙ decimal-read w (10 * u + d) v (λ j l m. h j l (omega arith))
    ∙ ap some (rw pow-suc (omega (arith, mod-more v (10 ^ w) (power-some w))))

-- a field that begins with a digit
plain-field : (c : ℕ) (cs : List ℕ) → (c ≡ space → ⊥) → (eqb c digit_zero && ltb 0 (length cs)) ≡ false → field (c ∷ cs) ≡ decimal 0 (c ∷ cs)
unfolding field after_spaces numeral
plain-field c cs n e = rw (ne_eqb c space n, e)

-- the first digit is no 0 with digits behind it
no-leading-zero : (w v : ℕ) → v < 10 ^ suc w → (0 < w → 10 ^ w ≤ v) → (eqb (digit_zero + digit_of w v) digit_zero && ltb 0 (length (printed_in w v))) ≡ false
unfolding printed_in
no-leading-zero zero v h l = and-false (eqb (digit_zero + digit_of 0 v) digit_zero)
no-leading-zero (suc w) v h l = rw (ne_eqb (digit_zero + digit_of (suc w) v) digit_zero (λ e. omega (arith, first-digit (suc w) v (l (omega arith)) h)))

digits-field : (w v : ℕ) → v < 10 ^ suc w → ((j : ℕ) → 0 < j → j < suc w → 10 ^ j ≤ v) → field (printed_in (suc w) v) ≡ some v
digits-field w v h l =
    let first = digit-shown w v (λ s. l w s (omega arith)) in
    ap field first ∙ plain-field (digit_zero + digit_of w v) (printed_in w v) (λ e. omega arith) (no-leading-zero w v h (λ s. l w s (omega arith))) ∙ ap (decimal 0) (sym first) ∙ decimal-read (suc w) 0 v l
    ∙ ap some (rw (mod-eq_of_lt h) (omega arith))

field-by-width : (w v : ℕ) → v < 10 ^ suc w → field (printed_in (suc w) v) ≡ some v
unfolding field after_spaces
field-by-width zero v h = digits-field zero v h (λ j s m. absurd (omega arith))
field-by-width (suc w) v h =
    by_order v (10 ^ suc w)
    (λ l. ap field (space-shown (suc w) v (omega arith) l) ∙ field-by-width w v l)
    (λ l. digits-field (suc w) v h (λ j s m. omega (arith, pow-le-pow_right {n = 10} (omega arith) {i = j} {j = suc w} (omega arith))))

pub field-read : FieldRead
field-read zero v z h = absurd (omega arith)
field-read (suc w) v z h = field-by-width w v h
