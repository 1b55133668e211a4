-- The whole number that the lines of specs/Root give is the square root rounded down, or 1 less: computed for each number up to 1734. Assumes nothing.
use Prim.Native.Nat.{ℕ, zero, suc, ◌+◌, ◌*◌, ◌/◌, ◌≤◌, ◌<◌}
use mathlib.Core.Path.{◌≡◌, refl, ap, ◌∙◌}
use mathlib.Core.Bool.{Bool, true, false, cond, false≢true}
use lib.Dec.{leb, ltb}
use native.Mathlib.Omega.{arith}
use borrow.Author.Tests.{leb-true, ltb-true}
use Rattle.lists.proofs.Cases.{by_order}
use Rattle.pixel.specs.Root.{RootWithin, line_of}

-- ---- a test that each number below n passes
abbrev every_below : (ℕ → Bool) → ℕ → Bool
every_below test zero = true
every_below test (suc n) = cond (test n) (every_below test n) false

every-below : (test : ℕ → Bool) (n : ℕ) → every_below test n ≡ true → (i : ℕ) → i < n → test i ≡ true
every-below test zero e i h = let none : ⊥ = omega arith in absurd none
every-below test (suc n) e i h = go (test n) refl e (every-below test n)
  where
    go : (t : Bool) → test n ≡ t → cond t (every_below test n) false ≡ true → (every_below test n ≡ true → (i : ℕ) → i < n → test i ≡ true) → test i ≡ true
    go true l k f = by_order i n (λ o. f k i o) (λ o. let z : i ≡ n = omega arith in ap test z ∙ l)
    go false l k f = absurd (false≢true k)

-- ---- the lines
unfoldable pub near_root : ℕ → ℕ
near_root x = let l = line_of (cond (leb 40 x) 1 0 + cond (leb 200 x) 1 0 + cond (leb 700 x) 1 0) in (l.start + l.slope * x) / 1024

unfoldable within : ℕ → Bool
within x = let j = near_root x in cond (leb (j * j) x) (ltb x ((j + 2) * (j + 2))) false

all-within : every_below within 1735 ≡ true
unfolding within near_root line_of
all-within = refl

passed : (x : ℕ) → x ≤ 1734 → cond (leb (near_root x * near_root x) x) (ltb x ((near_root x + 2) * (near_root x + 2))) false ≡ true
unfolding within
passed x h = every-below within 1735 all-within x (omega arith)

pub near-root-within : (x : ℕ) → x ≤ 1734 → RootWithin 2 x (near_root x)
near-root-within x h = go (leb (near_root x * near_root x) x) refl (passed x h)
  where
    go : (t : Bool) → leb (near_root x * near_root x) x ≡ t → cond t (ltb x ((near_root x + 2) * (near_root x + 2))) false ≡ true → RootWithin 2 x (near_root x)
    go true e f = record { low = leb-true _ _ e; high = ltb-true _ _ f }
    go false e f = absurd (false≢true f)

-- ---- where they begin, and how steep they are
pub line-le : (m : ℕ) → ((line_of m).start ≤ 16600) × ((line_of m).slope ≤ 146)
unfolding line_of
line-le zero = (omega arith, omega arith)
line-le (suc zero) = (omega arith, omega arith)
line-le (suc (suc zero)) = (omega arith, omega arith)
line-le (suc (suc (suc n))) = (omega arith, omega arith)
