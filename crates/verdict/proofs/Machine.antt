-- Signed numbers as the machine holds them: compared, read from their bits, added and subtracted, and one that is not negative read as a natural number. Assumes nothing.
use mathlib.Core.Path.{◌≡◌, sym, ap, ◌∙◌}
use mathlib.Core.Bool.{Bool}
use Prim.Native.Nat.{ℕ, ◌+◌, ◌-◌, ◌^◌, ◌≤◌, ◌<◌}
use native.Mathlib.Omega.{arith}
use lib.Dec.{le→leb}
use lib.IntN.{ℤ, pos, negsuc, nat_abs, ◌+ℤ◌, ◌-ℤ◌}
use lib.Signed.{lt_z, mag, ◌≤ℤ◌}
use mir.Syntax.{w64}
use mir.Val.{SFits, to_z, of_z}
use mir.ValLaws.{to_z-of_z}
use Rattle.lists.proofs.Signed.{sum-size, less-size}

-- the machine's test of two signed numbers
pub machine-less : (x y : ℤ) (t : Bool) → SFits w64 x → SFits w64 y → lt_z (to_z w64 (of_z w64 x)) (to_z w64 (of_z w64 y)) ≡ t → lt_z x y ≡ t
machine-less x y t f g e = sym (ap (λ (z : ℤ). lt_z z y) (to_z-of_z w64 x f)) ∙ sym (ap (λ (z : ℤ). lt_z (to_z w64 (of_z w64 x)) z) (to_z-of_z w64 y g)) ∙ e

-- a signed number that a call hands back is read from its bits as it is
pub handed-back : {z : ℤ} → mag z < 2 ^ 63 → to_z w64 (of_z w64 z) ≡ z
handed-back h = to_z-of_z w64 _ (record { sfits = h })

-- the sum and the difference of two small signed numbers
pub sum_fits : (x y : ℤ) → mag x < 2 ^ 62 → mag y < 2 ^ 62 → SFits w64 (x +ℤ y)
sum_fits x y h k = record { sfits = sum-size x y (2 ^ 63) (omega arith) }

pub less-fits : (x y : ℤ) → mag x < 2 ^ 62 → mag y < 2 ^ 62 → SFits w64 (x -ℤ y)
less-fits x y h k = record { sfits = less-size x y (2 ^ 63) (omega arith) }

-- what it is above l
pub natural-above : (z : ℤ) (l : ℕ) → pos 0 ≤ℤ z → l ≤ nat_abs z → pos (nat_abs z - l + l) ≤ℤ z
natural-above (pos a) l n h = record { le = le→leb (a - l + l) a (omega arith) }
natural-above (negsuc a) l n h = absurd n.le
