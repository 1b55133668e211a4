-- Products in another order. Assumes nothing.
use Prim.Native.Nat.{ℕ, ◌*◌}
use mathlib.Core.Path.{◌≡◌}
use native.Mathlib.Nat.{mul_assoc, mul_comm, mul_left_comm, mul-one, one-mul}

pub ruleset products = (mul_assoc, mul_comm, mul_left_comm, mul-one, one-mul)

pub swapped : (a b c : ℕ) → a * b * c ≡ a * c * b
swapped a b c = simp products

pub turned : (a b c : ℕ) → a * (b * c) ≡ a * c * b
turned a b c = simp products
