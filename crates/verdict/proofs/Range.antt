-- Every part of a stretch of up to 257 bins and 98,304 counts is within the logarithm's range. Assumes nothing.
use Prim.Native.Nat.{ℕ, zero, suc, ◌+◌, ◌*◌, ◌-◌, ◌^◌, ◌≤◌, ◌<◌}
use mathlib.Core.Path.{◌≡◌}
use mathlib.Core.List.{List}
use native.Mathlib.Omega.{arith}
use native.Mathlib.Nat.{mul-pos, mul-le-mul_left, mul-le-mul, mul-lt-mul_of_pos_left, le_of_mul-le-mul_right, lt_of_mul-lt-mul_left, lt_of_mul-lt-mul_right}
use lib.ListN.{length}
use Rattle.lists.specs.Lists.{total, part}
use Rattle.lists.proofs.Cases.{by_order}
use Rattle.lists.proofs.Sums.{total-part-le}
use Rattle.pooling.specs.declared.Block.{Block}
use Rattle.pooling.specs.Blocks.{Direction, blocks}
use Rattle.pooling.specs.Limits.{most_bins, most_counts}
use Rattle.pooling.specs.Best.{CutInto}
use Rattle.pooling.proofs.Gap.{Splits}
use Rattle.pooling.proofs.Cuts.{begins-fits}
use Rattle.pooling.proofs.FittedLevels.{part-grows, rest-grows, part-within}
use Rattle.pooling.proofs.Places.{places-apart}
use Rattle.pooling.proofs.Laws.{blocks-cut}
use Rattle.pooling.proofs.Always.{blocks-split}
use Rattle.verdict.specs.declared.Mass.{Mass}
use Rattle.verdict.specs.Test.{place_of, mass_within, mass_across, fitted_mass}
use Rattle.verdict.specs.Exactness.{LogsDefined}
use Rattle.verdict.proofs.Masses.{by_blocks, mass-levels, mass-positive}

-- ---- B: four times the product of two lengths is at most the square of their sum
pub four-product : (a b : ℕ) → 4 * (a * b) ≤ (a + b) * (a + b)
four-product a b =
    by_order a b
    (λ l. let z : a + (b - a) ≡ b = omega arith in rw z at (over a (b - a)))
    (λ l. let z : b + (a - b) ≡ a = omega arith in omega (arith, rw z at (over b (a - b))))
  where
    over : (a d : ℕ) → 4 * (a * (a + d)) ≤ (a + (a + d)) * (a + (a + d))
    over a d = omega arith

product_small : (n a b : ℕ) → n ≤ most_counts → a + b ≤ most_bins → n * (a * b) < 2 ^ 32
product_small n a b hn hl =
    let s : 4 * (a * b) ≤ most_bins * most_bins = omega (arith, four-product a b, mul-le-mul hl hl) in
    let t : n * (4 * (a * b)) ≤ most_counts * (most_bins * most_bins) = mul-le-mul hn s in
    omega arith

single-small : (n l : ℕ) → n ≤ most_counts → l ≤ most_bins → n * l < 2 ^ 32
single-small n l hn hl = let t : n * l ≤ most_counts * most_bins = mul-le-mul hn hl in omega arith

mass-small : {h : List ℕ} {bs : List Block} → CutInto h bs → length h ≤ most_bins → (n : ℕ) → n ≤ most_counts → (i j : ℕ) → i ≤ j → j < length h → n * (fitted_mass h bs i j).den < 2 ^ 32
unfolding mass_within mass_across
mass-small {bs = bs} k hl n hn i j o l =
    by_blocks k i j o l (λ (m : Mass). n * m.den < 2 ^ 32)
    (λ P Q e. single-small n (place_of bs i).block.len hn (omega (arith, begins-fits P.begins)))
    (λ P Q e. product_small n (place_of bs i).block.len (place_of bs j).block.len hn (omega (arith, begins-fits Q.begins, places-apart P Q o e)))

-- ---- the range: k is the count of the part and K its levels, N all counts and M the number of bins
pub positive-left : (a b : ℕ) → 0 < a * b → 0 < a
positive-left zero b h = omega arith
positive-left (suc a) b h = omega arith

mass-some : (D M A B K k : ℕ) → 0 < D → 0 < B → A * D ≡ B * K → D * k ≤ M * K → 0 < k → 0 < A
mass-some D M A B K k h_d h_b e g hk =
    let p : 0 < K = positive-left K M (omega (arith, mul-pos h_d hk)) in
    positive-left A D (omega (arith, mul-pos h_b p))

mass-rest : (D M A B K k N : ℕ) → 0 < D → 0 < B → A * D ≡ B * K → D * N + M * K ≤ D * k + M * (D * N) → k < N → A < N * B
mass-rest D M A B K k N h_d h_b e g hk =
    let p : K < D * N = lt_of_mul-lt-mul_left M (omega (arith, mul-lt-mul_of_pos_left hk h_d)) in
    lt_of_mul-lt-mul_right D (omega (arith, mul-lt-mul_of_pos_left p h_b))

mass-within : (D A B K N : ℕ) → 0 < D → A * D ≡ B * K → K ≤ D * N → A ≤ N * B
mass-within D A B K N h_d e g = le_of_mul-le-mul_right {k = D} (omega (arith, mul-le-mul_left B g)) h_d

range-over : {h : List ℕ} {bs : List Block} → CutInto h bs → (D : ℕ) → 0 < D → Splits D bs → length h ≤ most_bins → total h ≤ most_counts → (i j : ℕ) → i ≤ j → j < length h
    → LogsDefined (total h) (total (part i j h)) (fitted_mass h bs i j)
range-over {h = h} k D h_d w hl hn i j o l =
    let h_b = mass-positive k i j o l in
    let e = mass-levels k i j o l D w in
    record {
      partial = total-part-le i j h (omega arith);
      positive = h_b;
      within = mass-within D _ _ _ (total h) h_d e (part-within k D w i j o l);
      below = mass-small k hl (total h) hn i j o l;
      some_mass = mass-some D (length h) _ _ _ _ h_d h_b e (part-grows k D w i j o l);
      some_rest = mass-rest D (length h) _ _ _ _ (total h) h_d h_b e (rest-grows k D w i j o l);
    }

pub in-range : (w : Direction) (h : List ℕ) → length h ≤ most_bins → total h ≤ most_counts → (i j : ℕ) → i ≤ j → j < length h
    → LogsDefined (total h) (total (part i j h)) (fitted_mass h (blocks w h) i j)
in-range w h = let s = blocks-split w h in range-over (blocks-cut w h) s.0 s.1 s.2
