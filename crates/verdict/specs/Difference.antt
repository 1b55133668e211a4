-- The weight of a part over signed numbers, term by term (T3). Assumes nothing.
use Rattle.std.specs.Prelude.{ℕ, zero, suc, ◌*◌, ◌-◌, ◌≡◌, ℤ, pos, ◌+ℤ◌, ◌-ℤ◌, ◌*ℤ◌}
use Rattle.logarithm.specs.Log.{lg}
use Rattle.verdict.specs.declared.Mass.{Mass}
use Rattle.verdict.specs.Test.{weight}

-- a number of counts times the difference of two logarithms; 0 if there are no counts (T3)
unfoldable pub term : ℕ → ℕ → ℕ → ℤ
term zero x y = pos 0
term (suc k) x y = pos (suc k) *ℤ (pos (lg x) -ℤ pos (lg y))

-- the term of the counts in the part plus that of the counts outside it (T3). k ≤ N and A ≤ NB, so neither N − k nor NB − A is negative
unfoldable pub signed_weight : ℕ → ℕ → Mass → ℤ
signed_weight n k m = term k (k * m.den) m.num +ℤ term (n - k) ((n - k) * m.den) (n * m.den - m.num)

-- `weight`, which takes one difference of two sums, is the same number (T3); proved in proofs/Difference
abbrev pub WeightByTerms : Type 0
WeightByTerms = (n k : ℕ) (m : Mass) → weight n k m ≡ signed_weight n k m
