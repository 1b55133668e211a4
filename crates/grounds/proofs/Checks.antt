-- The grounds as the code hands them back: none has the number 0. And the sum of the counts. Assumes nothing.
use Rattle.std.proofs.Common.{ℕ, ◌≡◌, ◌+◌, List, [], ◌∷◌, arith, refl, ap, ◌∙◌}
use Rattle.std.proofs.lemmas.List.Sums.{sum_by-cons}
use Rattle.std.specs.Prelude.{sum}
use Rattle.lists.specs.Lists.{total}
use Rattle.grounds.specs.declared.Ground.{Ground}
use Rattle.grounds.specs.declared.Ground.TheVariants.{Header, Size, Lines, Bytes, Pixels, Bins, Counts, Closeness, Labels, Places, Entries, Log}
use Rattle.grounds.specs.Checks.{ground_number}

pub ground-some : (why : Ground) → ground_number why ≡ 0 → ⊥
ground-some Header e = omega (arith, e)
ground-some Size e = omega (arith, e)
ground-some Lines e = omega (arith, e)
ground-some Bytes e = omega (arith, e)
ground-some Pixels e = omega (arith, e)
ground-some Bins e = omega (arith, e)
ground-some Counts e = omega (arith, e)
ground-some Closeness e = omega (arith, e)
ground-some Labels e = omega (arith, e)
ground-some Places e = omega (arith, e)
ground-some Entries e = omega (arith, e)
ground-some Log e = omega (arith, e)

pub sum-total : (xs : List ℕ) → sum xs ≡ total xs
sum-total [] = refl
sum-total (x ∷ xs) = sum_by-cons (λ (y : ℕ). y) x xs ∙ ap (λ (n : ℕ). x + n) (sum-total xs)
