-- Numbers of a log: whether two are the same, written in a row, and whether two logs are the same. Assumes nothing.
use Prim.Native.Nat.{ℕ, ◌+◌, ◌≤◌}
use mathlib.Core.Path.{◌≡◌, refl, sym, ap, ◌∙◌}
use mathlib.Core.Bool.{Bool, true, false, false≢true}
use mathlib.Core.List.{List, [], ◌∷◌, ◌++◌, append_assoc}
use native.Mathlib.Omega.{arith}
use borrow.Author.Tests.{eqb-true, eq-eqb, ne_eqb}
use lib.Dec.{eqb}
use lib.IntN.{ℤ, pos, negsuc}
use lib.ListN.{length, take, drop, length-append}
use lib.Seq.{length-take-le}
use Rattle.lists.specs.Lists.{over}
use Rattle.lists.proofs.Connectives.{both_true}
use Rattle.joinlog.specs.JoinLog.{same_number, same_numbers}

-- ---- one number
pub same_self : (x : ℤ) → same_number x x ≡ true
unfolding same_number
same_self (pos n) = eq-eqb n n refl
same_self (negsuc n) = eq-eqb n n refl

pub same-equal : (x y : ℤ) → same_number x y ≡ true → x ≡ y
unfolding same_number
same-equal (pos m) (pos n) t = ap pos (eqb-true m n t)
same-equal (pos m) (negsuc n) t = absurd (false≢true t)
same-equal (negsuc m) (pos n) t = absurd (false≢true t)
same-equal (negsuc m) (negsuc n) t = ap negsuc (eqb-true m n t)

-- ---- numbers written into a log
-- those of a part of it, with what stands before them
pub part-written : {A : Type 0} (xs ys : List A) (at : ℕ) → at ≤ length xs → take at xs ++ (ys ++ drop (at + length ys) xs) ≡ over (take at xs ++ ys) xs
unfolding over
part-written xs ys at room =
    sym (ap (λ (n : ℕ). (take at xs ++ ys) ++ drop n xs) (length-append (take at xs) ys ∙ ap (λ (n : ℕ). n + length ys) (length-take-le at xs room))
    ∙ append_assoc (take at xs) ys (drop (at + length ys) xs))

-- ---- two logs
pub same-logs : (xs : List ℤ) → same_numbers xs xs ≡ true
unfolding same_numbers
same-logs [] = refl
same-logs (x ∷ xs) = rw (same_self x) (same-logs xs)

pub logs-equal : (xs ys : List ℤ) → same_numbers xs ys ≡ true → xs ≡ ys
unfolding same_numbers
logs-equal [] [] t = refl
logs-equal [] (y ∷ ys) t = absurd (false≢true t)
logs-equal (x ∷ xs) [] t = absurd (false≢true t)
logs-equal (x ∷ xs) (y ∷ ys) t =
    let b = both_true (same_number x y) (same_numbers xs ys) t in
    let p = same-equal x y b.0 in
    let q = logs-equal xs ys b.1 in
    λ i. p i ∷ q i

-- logs that begin with the same numbers are the same if they go on in the same way
pub same-more : (xs ys zs : List ℤ) → same_numbers (xs ++ ys) (xs ++ zs) ≡ same_numbers ys zs
unfolding same_numbers
same-more [] ys zs = refl
same-more (x ∷ xs) ys zs = rw (same_self x) (same-more xs ys zs)

-- a log that does not begin with the numbers of another is not the same
pub same-never : (xs rest log : List ℤ) → ((more : List ℤ) → ¬ (log ≡ xs ++ more)) → same_numbers log (xs ++ rest) ≡ false
same-never xs rest log d = go (same_numbers log (xs ++ rest)) refl
  where
    go : (t : Bool) → same_numbers log (xs ++ rest) ≡ t → t ≡ false
    go true q = absurd (d rest (logs-equal log (xs ++ rest) q))
    go false q = refl

-- where no record is left, no number may be left
pub same-nothing : (log : List ℤ) → same_numbers log [] ≡ eqb (length log) 0
unfolding same_numbers
same-nothing [] = refl
same-nothing (x ∷ xs) = sym (ne_eqb (length (x ∷ xs)) 0 (λ e. absurd (omega arith)))
