-- 2^lg ≤ x^(2^26) < 2^(lg+2), by what each round preserves: x^(2^r) lies between 2^bits times the mantissa and that times (1 + 2^-31)^(2^r - 1). Assumes nothing.
use Prim.Native.Nat.{ℕ, zero, suc, ◌+◌, ◌*◌, ◌-◌, ◌/◌, ◌^◌, ◌≤◌, ◌<◌, zero-le}
use mathlib.Core.Path.{◌≡◌, refl, sym, ap, ap₂, subst, ◌∙◌}
use lib.Dec.{leb, lit<, lit≤}
use lib.Pow.{pow-add, pow_pos}
use native.Mathlib.Omega.{arith}
use native.Mathlib.Nat.{add_assoc, add_comm, add_left_comm, mul_assoc, mul_comm, mul_left_comm, mul_right_comm, mul-add, add-mul, mul-one, one-mul, mul-zero, zero-mul, pow-suc, pow-zero, le_trans, le_refl, le_of_eq, lt_of_le_of_lt, lt_of_lt_of_le, le_of_lt, mul-le-mul, mul-le-mul_left, mul-le-mul_right, le_of_mul-le-mul_left, div-mul-le_self, lt-div-mul-add, mul-lt-mul_of_pos_left, mul-lt-mul_of_pos_right, mul-pos, le_of_mul-le-mul_right, lt_of_mul-lt-mul_right, suc-mul, add-zero, one-le-pow, div-lt_iff_lt-mul, le-div_iff_mul-le, mul-suc}
use borrow.Author.Tests.{leb-true, leb-false}
use Rattle.logarithm.specs.declared.Logarithm.{Logarithm}
use Rattle.logarithm.specs.Log.{Loggable, round_count, units_per_bit, floor_log}
use Rattle.logarithm.specs.Worker.{start, round, after}
use Rattle.logarithm.specs.Bounds.{AlwaysBounded}
use Rattle.lists.proofs.Cases.{by_cond}
use Rattle.lists.proofs.Powers.{mul-pow, pow_lt_cancel}
use Rattle.logarithm.proofs.Gathered.{lg-worker}

ruleset semiring = (mul-add, add-mul, add_assoc, add_comm, add_left_comm, mul_assoc, mul_comm, mul_left_comm, mul-one, one-mul, mul-zero, zero-mul)

-- squares keep an order
square : {a b : ℕ} → a ≤ b → a * a ≤ b * b
square h = mul-le-mul h h

-- one round, from below: P is 2^bits, X is x^p, and y' the new mantissa, with t = 1 or 2
step-low : (H P X y y' t : ℕ) → 0 < H → P * y ≤ X * H → y' * (H * t) ≤ y * y → P * P * t * y' ≤ X * X * H
step-low H P X y y' t p h k =
    le_of_mul-le-mul_left
    (le_trans (le_of_eq (simp semiring))
    (le_trans (mul-le-mul_left (P * P) k)
    (le_trans (le_of_eq (simp semiring))
    (le_trans (square h) (le_of_eq (simp semiring))))))
    p

-- from above: Z is (xH)^p, and Q is (H+1)^(p-1)
step-high : (P Q Z y y' t S : ℕ) → Z ≤ P * y * Q → y * y ≤ t * y' * S → Z * Z ≤ P * P * t * y' * (Q * Q * S)
step-high P Q Z y y' t S h k =
    le_trans (square h)
    (le_trans (le_of_eq (simp semiring))
    (le_trans (mul-le-mul_left (P * P * (Q * Q)) k) (le_of_eq (simp semiring))))

-- what holds after p - 1 = c: the mantissa's range, and x^p from both sides
pub record Inv (x H c : ℕ) (s : Logarithm) : Type 0 where
  pub above : H ≤ s.mantissa
  pub below : s.mantissa < H * 2
  pub low : 2 ^ s.bits * s.mantissa ≤ x ^ suc c * H
  pub high : (x * H) ^ suc c ≤ 2 ^ s.bits * s.mantissa * suc H ^ c

twice : (n c : ℕ) → n ^ suc (2 * c + 1) ≡ n ^ suc c * n ^ suc c
twice n c = ap (λ (k : ℕ). n ^ k) (omega arith) ∙ pow-add n (suc c) (suc c)

odd : (n c : ℕ) → n ^ (2 * c + 1) ≡ n ^ c * n ^ c * n
odd n c = ap (λ (k : ℕ). n ^ k) (omega arith) ∙ pow-suc n (c + c) ∙ ap (λ (k : ℕ). k * n) (pow-add n c c)

bits_of : (l b t : ℕ) → 2 ^ b ≡ t → 2 ^ (2 * l + b) ≡ 2 ^ l * 2 ^ l * t
bits_of l b t e = ap (λ (k : ℕ). 2 ^ k) (omega arith) ∙ pow-add 2 (l + l) b ∙ ap₂ (λ (k m : ℕ). k * m) (pow-add 2 l l) e

-- the square, and the new mantissa with one more unit
cover : (H t y' q : ℕ) → H ≤ y' → q < y' * (H * t) + H * t → q ≤ t * y' * suc H
cover H t y' q h k =
    le_trans (le_of_lt k)
    (le_trans (grow (y' * (H * t)) (mul-le-mul_right t h)) (le_of_eq (sorted)))
  where
    grow : {a b : ℕ} (c : ℕ) → a ≤ b → c + a ≤ c + b
    grow c l = omega arith

    sorted : y' * (H * t) + y' * t ≡ t * y' * suc H
    sorted = simp (mul-suc, semiring)

module _ (x H c : ℕ) (pos : 0 < H) (s : Logarithm) (i : Inv x H c s) where
  one-round : (t b : ℕ) → 2 ^ b ≡ t → 0 < t → H * (H * t) ≤ s.mantissa * s.mantissa → s.mantissa * s.mantissa < H * 2 * (H * t)
      → Inv x H (2 * c + 1) (record { mantissa = s.mantissa * s.mantissa / (H * t); bits = 2 * s.bits + b })
  one-round t b e tp lo hi =
      let d : 0 < H * t = mul-pos pos tp in
      let up : H ≤ s.mantissa * s.mantissa / (H * t) = (le-div_iff_mul-le d).1 lo in
      record {
        above = up;
        below = (div-lt_iff_lt-mul d).1 hi;
        low = rw (bits_of s.bits b t e, twice x c) (step-low H (2 ^ s.bits) (x ^ suc c) s.mantissa (s.mantissa * s.mantissa / (H * t)) t pos i.low (div-mul-le_self (s.mantissa * s.mantissa) (H * t)));
        high = rw (bits_of s.bits b t e, twice (x * H) c, odd (suc H) c) (step-high (2 ^ s.bits) (suc H ^ c) ((x * H) ^ suc c) s.mantissa (s.mantissa * s.mantissa / (H * t)) t (suc H) i.high (cover H t (s.mantissa * s.mantissa / (H * t)) (s.mantissa * s.mantissa) up (lt-div-mul-add d)));
      }

round-inv : (x c : ℕ) (s : Logarithm) → Inv x (2 ^ 31) c s → Inv x (2 ^ 31) (2 * c + 1) (round s)
unfolding round
round-inv x c s i =
    by_cond (λ r. Inv x (2 ^ 31) (2 * c + 1) r) (leb (2 ^ 63) (s.mantissa * s.mantissa)) (record { mantissa = s.mantissa * s.mantissa / 2 ^ 32; bits = 2 * s.bits + 1 }) (record { mantissa = s.mantissa * s.mantissa / 2 ^ 31; bits = 2 * s.bits })
    (λ e. one-round x (2 ^ 31) c (lit< tt) s i 2 1 refl (lit< tt) (leb-true (2 ^ 63) (s.mantissa * s.mantissa) e) (lt_of_lt_of_le (under s.mantissa (2 ^ 32) i.below) (lit≤ tt)))
    (λ e. subst (λ (k : ℕ). Inv x (2 ^ 31) (2 * c + 1) (record { mantissa = s.mantissa * s.mantissa / 2 ^ 31; bits = k })) (add-zero (2 * s.bits))
    (one-round x (2 ^ 31) c (lit< tt) s i 1 0 refl (lit< tt) (square i.above) (leb-false (2 ^ 63) (s.mantissa * s.mantissa) e)))
  where
    under : (y k : ℕ) → y < k → y * y < k * k
    under y k h = lt_of_le_of_lt (mul-le-mul_left y (le_of_lt h)) (mul-lt-mul_of_pos_right h (omega arith))

-- x's exponent less 1, n rounds on: each round doubles the exponent
pub grow : ℕ → ℕ → ℕ
grow zero c = c
grow (suc n) c = grow n (2 * c + 1)

after-inv : (x n c : ℕ) (s : Logarithm) → Inv x (2 ^ 31) c s → Inv x (2 ^ 31) (grow n c) (after n s)
unfolding after grow
after-inv x zero c s i = i
after-inv x (suc n) c s i = after-inv x n (2 * c + 1) (round s) (round-inv x c s i)

grow-is : (n c : ℕ) → suc (grow n c) ≡ 2 ^ n * suc c
unfolding grow
grow-is zero c = rw (pow-zero, one-mul) refl
grow-is (suc n) c = grow-is n (2 * c + 1) ∙ rw pow-suc (rw mul_assoc (ap (λ (k : ℕ). 2 ^ n * k) (omega arith)))

-- (1 + 1/H)^c ≤ H / (H - c)
bern : (H c m : ℕ) → m + c ≡ H → suc H ^ c * m ≤ H ^ suc c
bern H zero m e = rw (pow-zero, one-mul, pow-suc, pow-zero, one-mul) (omega arith)
bern H (suc c) m e =
    rw (pow-suc (suc H) c, mul_assoc)
    (le_trans (mul-le-mul_left (suc H ^ c) (inner H m (omega arith)))
    (le_trans (le_of_eq (mul_left_comm (suc H ^ c) H (suc m)))
    (le_trans (mul-le-mul_left H (bern H c (suc m) (omega arith)))
    (le_of_eq (mul_comm H (H ^ suc c) ∙ sym (pow-suc H (suc c)))))))
  where
    inner : (H m : ℕ) → m ≤ H → suc H * m ≤ H * suc m
    inner H m l = rw (suc-mul, mul-suc) (omega arith)

half : (H c : ℕ) → 0 < H → 2 * c ≤ H → suc H ^ c ≤ 2 * H ^ c
half H c p h =
    le_of_mul-le-mul_right
    (le_trans (mul-le-mul_left (suc H ^ c) two)
    (le_trans (le_of_eq (mul_left_comm (suc H ^ c) 2 (H - c)))
    (le_trans (mul-le-mul_left 2 (bern H c (H - c) (omega arith)))
    (le_of_eq (ap (λ (k : ℕ). 2 * k) (pow-suc H c) ∙ sym (mul_assoc 2 (H ^ c) H))))))
    p
  where
    two : H ≤ 2 * (H - c)
    two = omega arith

four : (P H Q t : ℕ) → P * (H * t) * (t * Q) ≡ P * (t * t) * (Q * H)
four P H Q t = simp semiring

module _ (x H c : ℕ) (pos : 0 < H) (s : Logarithm) (i : Inv x H c s) where
  end_low : 2 ^ s.bits ≤ x ^ suc c
  end_low = le_of_mul-le-mul_right (le_trans (mul-le-mul_left (2 ^ s.bits) i.above) i.low) pos

  end-high : 2 * c ≤ H → x ^ suc c < 2 ^ (s.bits + 2)
  end-high h =
      lt_of_mul-lt-mul_right (H ^ suc c)
      (lt_of_le_of_lt (le_of_eq (sym (mul-pow x H (suc c))))
      (lt_of_le_of_lt (le_trans i.high (mul-le-mul_left (2 ^ s.bits * s.mantissa) (half H c pos h)))
      (lt_of_lt_of_le (mul-lt-mul_of_pos_right (mul-lt-mul_of_pos_left i.below (pow_pos s.bits)) (mul-pos (lit< tt) (one-le-pow c H pos)))
      (le_of_eq (rw (pow-add 2 s.bits 2, pow-suc H c) (four (2 ^ s.bits) H (H ^ c) 2))))))

pub record Floor (x f : ℕ) : Type 0 where
  pub least : 2 ^ f ≤ x
  pub most : x < 2 ^ suc f

pub floor-le : (n x : ℕ) → floor_log n x ≤ n
unfolding floor_log
floor-le zero x = zero-le
floor-le (suc n) x = by_cond (λ r. r ≤ suc n) (leb (2 ^ suc n) x) (suc n) (floor_log n x) (λ e. le_refl (suc n)) (λ e. let h = floor-le n x in omega arith)

pub floor-is : (n x : ℕ) → 1 ≤ x → x < 2 ^ suc n → Floor x (floor_log n x)
unfolding floor_log
floor-is zero x h k = record { least = h; most = k }
floor-is (suc n) x h k =
    by_cond (λ r. Floor x r) (leb (2 ^ suc n) x) (suc n) (floor_log n x)
    (λ e. record { least = leb-true (2 ^ suc n) x e; most = k })
    (λ e. floor-is n x h (leb-false (2 ^ suc n) x e))

-- two floors of one logarithm are equal
pub floor-unique : (x i j : ℕ) → Floor x i → Floor x j → i ≡ j
floor-unique x i j p q =
    omega (arith, pow_lt_cancel i (suc j) (lt_of_le_of_lt p.least q.most), pow_lt_cancel j (suc i) (lt_of_le_of_lt q.least p.most))

start-inv : (x f : ℕ) → f ≤ 31 → Floor x f → Inv x (2 ^ 31) 0 (record { mantissa = x * 2 ^ (31 - f); bits = f })
start-inv x f l i =
    let all : f + (31 - f) ≡ 31 = omega arith in
    let whole : 2 ^ f * 2 ^ (31 - f) ≡ 2 ^ 31 = sym (pow-add 2 f (31 - f)) ∙ ap (λ (k : ℕ). 2 ^ k) all in
    let more : 2 ^ suc f * 2 ^ (31 - f) ≡ 2 ^ 31 * 2 = rw pow-suc (mul_right_comm (2 ^ f) 2 (2 ^ (31 - f)) ∙ ap (λ (k : ℕ). k * 2) whole) in
    let turned : 2 ^ f * (x * 2 ^ (31 - f)) ≡ x * 2 ^ 31 = mul_left_comm (2 ^ f) x (2 ^ (31 - f)) ∙ ap (λ (k : ℕ). x * k) whole in
    record {
      above = le_trans (le_of_eq (sym whole)) (mul-le-mul_right (2 ^ (31 - f)) i.least);
      below = lt_of_lt_of_le (mul-lt-mul_of_pos_right i.most (pow_pos (31 - f))) (le_of_eq more);
      low = le_of_eq (turned ∙ ap (λ (k : ℕ). k * 2 ^ 31) (sym (first x)));
      high = le_of_eq (first (x * 2 ^ 31) ∙ sym turned ∙ sym (mul-one (2 ^ f * (x * 2 ^ (31 - f)))) ∙ ap (λ (k : ℕ). 2 ^ f * (x * 2 ^ (31 - f)) * k) (sym (pow-zero (suc (2 ^ 31)))));
    }
  where
    first : (n : ℕ) → n ^ suc 0 ≡ n
    first n = pow-suc n 0 ∙ ap (λ (k : ℕ). k * n) (pow-zero n) ∙ one-mul n

-- the state after n rounds of x
pub after-start : (x n : ℕ) → Loggable x → Inv x (2 ^ 31) (grow n 0) (after n (start x))
unfolding start
after-start x n v = after-inv x n 0 (start x) (start-inv x (floor_log 31 x) (floor-le 31 x) (floor-is 31 x v.low v.high))

grow-start : (n : ℕ) → suc (grow n 0) ≡ 2 ^ n
grow-start n = grow-is n 0 ∙ mul-one (2 ^ n)

-- the rounds as a variable, so that no closed power stands anywhere
pub after-low : (x n : ℕ) → Loggable x → 2 ^ (after n (start x)).bits ≤ x ^ (2 ^ n)
after-low x n v = rw grow-start at (end_low x (2 ^ 31) (grow n 0) (lit< tt) (after n (start x)) (after-start x n v))

after-high : (x n : ℕ) → Loggable x → 2 * grow n 0 ≤ 2 ^ 31 → x ^ (2 ^ n) < 2 ^ ((after n (start x)).bits + 2)
after-high x n v l = rw (grow-start n) at (end-high x (2 ^ 31) (grow n 0) (lit< tt) (after n (start x)) (after-start x n v) l)

pub always-bounded : AlwaysBounded
unfolding units_per_bit round_count grow
always-bounded x v =
    record { low = rw lg-worker (after-low x round_count v); high = rw lg-worker (after-high x round_count v (lit≤ tt)) }
