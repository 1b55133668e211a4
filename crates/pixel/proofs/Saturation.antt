-- The saturation bin from Q, by where the bins begin. Assumes nothing.
use Prim.Native.Nat.{ℕ, ◌+◌, ◌*◌, ◌/◌, ◌≤◌, ◌<◌}
use mathlib.Core.Path.{◌≡◌, sym}
use lib.Dec.{leb}
use native.Mathlib.Omega.{arith}
use native.Mathlib.Nat.{mul-le-mul}
use borrow.Author.Tests.{leb-true, le-leb}
use Rattle.lists.proofs.Cases.{by_order}
use Rattle.lists.proofs.LargestThat.{largest-that-unique}
use Rattle.pixel.specs.Root.{RootWithin}
use Rattle.pixel.specs.Colour.{saturation_of}

-- bins begin in order
pub begins-below : (j k n : ℕ) → 75 * (j * j) ≤ n → n < 75 * (k * k) → j < k
begins-below j k n h l = by_order j k (λ o. o) (λ o. omega (arith, mul-le-mul o o))

-- the bin that begins at or below 2Q, when the next begins above
pub saturation-is : (q j : ℕ) → q ≤ 65025 → 75 * (j * j) ≤ 2 * q → 2 * q < 75 * ((j + 1) * (j + 1)) → saturation_of q ≡ j
unfolding saturation_of
saturation-is q j s h l =
    let o : j < 42 = begins-below j 42 (2 * q) h (omega arith) in
    largest-that-unique (λ (k : ℕ). leb (75 * (k * k)) (2 * q)) 41 j (omega arith) (le-leb (75 * (j * j)) (2 * q) h)
    (λ k e. omega (arith, begins-below k (j + 1) (2 * q) (leb-true (75 * (k * k)) (2 * q) e) l))

-- from the whole square root of 2Q/75
pub saturation-root : (q j : ℕ) → q ≤ 65025 → RootWithin 1 (2 * q / 75) j → j ≡ saturation_of q
saturation-root q j s h = sym (saturation-is q j s (omega (arith, h.low)) (omega (arith, h.high)))
