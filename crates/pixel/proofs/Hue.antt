-- The tangents that a point passes, counted by every third one, and the ranges of the quarter and of the count. Assumes nothing.
use Prim.Native.Nat.{ℕ, zero, suc, ◌+◌, ◌*◌, ◌≤◌}
use mathlib.Core.Path.{◌≡◌, refl}
use mathlib.Core.Bool.{Bool, true, false, cond}
use lib.Dec.{leb}
use lib.ListN.{get_or}
use native.Mathlib.Omega.{arith}
use native.Mathlib.Nat.{mul-le-mul_right}
use borrow.Author.Rules.{rules}
use borrow.Author.Tests.{leb-true, le-leb}
use Rattle.lists.specs.Lists.{count_if}
use Rattle.lists.proofs.Cases.{by_cond}
use Rattle.lists.proofs.Counting.{count-le}
use Rattle.pixel.specs.Colour.{Point, tangents, tangents_passed, quarter, turned_of, hue_at, hue_of}

cond-le : (t : Bool) (a b n : ℕ) → a ≤ n → b ≤ n → cond t a b ≤ n
cond-le true a b n h j = h
cond-le false a b n h j = j

-- ---- the tangents rise, so one that is passed has all before it passed
unfoldable pub passed_one : ℕ → ℕ → ℕ → ℕ
passed_one a b t = cond (leb (t * a) (b * 1000000)) 1 0

module _ (a b : ℕ) where
  passed-one-le : (t : ℕ) → passed_one a b t ≤ 1
  unfolding passed_one
  passed-one-le t = cond-le (leb (t * a) (b * 1000000)) 1 0 1 (omega arith) (omega arith)

  falls : (s t : ℕ) → s ≤ t → passed_one a b t ≤ passed_one a b s
  unfolding passed_one
  falls s t h =
      by_cond (λ (n : ℕ). n ≤ cond (leb (s * a) (b * 1000000)) 1 0) (leb (t * a) (b * 1000000)) 1 0
      (λ e. let l = mul-le-mul_right a h in rw (le-leb (s * a) (b * 1000000) (omega (arith, leb-true (t * a) (b * 1000000) e))) (omega arith))
      (λ e. omega arith)

  record Falling : Type 0 where
    c0 : passed_one a b 105104 ≤ 1
    c1 : passed_one a b 212556 ≤ passed_one a b 105104
    c2 : passed_one a b 324919 ≤ passed_one a b 212556
    c3 : passed_one a b 445228 ≤ passed_one a b 324919
    c4 : passed_one a b 577350 ≤ passed_one a b 445228
    c5 : passed_one a b 726542 ≤ passed_one a b 577350
    c6 : passed_one a b 900404 ≤ passed_one a b 726542
    c7 : passed_one a b 1110612 ≤ passed_one a b 900404
    c8 : passed_one a b 1376381 ≤ passed_one a b 1110612
    c9 : passed_one a b 1732050 ≤ passed_one a b 1376381
    c10 : passed_one a b 2246036 ≤ passed_one a b 1732050
    c11 : passed_one a b 3077683 ≤ passed_one a b 2246036
    c12 : passed_one a b 4704630 ≤ passed_one a b 3077683
    c13 : passed_one a b 9514364 ≤ passed_one a b 4704630

  falling : Falling
  falling = record {
    c0 = passed-one-le 105104;
    c1 = falls 105104 212556 (omega arith);
    c2 = falls 212556 324919 (omega arith);
    c3 = falls 324919 445228 (omega arith);
    c4 = falls 445228 577350 (omega arith);
    c5 = falls 577350 726542 (omega arith);
    c6 = falls 726542 900404 (omega arith);
    c7 = falls 900404 1110612 (omega arith);
    c8 = falls 1110612 1376381 (omega arith);
    c9 = falls 1376381 1732050 (omega arith);
    c10 = falls 1732050 2246036 (omega arith);
    c11 = falls 2246036 3077683 (omega arith);
    c12 = falls 3077683 4704630 (omega arith);
    c13 = falls 4704630 9514364 (omega arith);
  }

  passed-sum : tangents_passed a b
      ≡ passed_one a b 105104
      + (passed_one a b 212556
      + (passed_one a b 324919
      + (passed_one a b 445228
      + (passed_one a b 577350
      + (passed_one a b 726542
      + (passed_one a b 900404
      + (passed_one a b 1110612
      + (passed_one a b 1376381
      + (passed_one a b 1732050
      + (passed_one a b 2246036
      + (passed_one a b 3077683
      + (passed_one a b 4704630
      + (passed_one a b 9514364 + 0)))))))))))))
  unfolding tangents_passed tangents count_if passed_one
  passed-sum = refl

  -- of every third tangent, and then of the two after the last of these that is passed
  pub passed-by-thirds : (group first second : ℕ)
      → group ≡ passed_one a b 324919 + passed_one a b 726542 + passed_one a b 1376381 + passed_one a b 3077683
      → first ≡ get_or tangents (3 * group) 0 → second ≡ get_or tangents (3 * group + 1) 0
      → 3 * group + passed_one a b first + passed_one a b second ≡ tangents_passed a b
  unfolding tangents
  passed-by-thirds zero first second g f s = rw (f, s, passed-sum) (omega (arith, falling))
  passed-by-thirds (suc zero) first second g f s = rw (f, s, passed-sum) (omega (arith, falling))
  passed-by-thirds (suc (suc zero)) first second g f s = rw (f, s, passed-sum) (omega (arith, falling))
  passed-by-thirds (suc (suc (suc zero))) first second g f s = rw (f, s, passed-sum) (omega (arith, falling))
  passed-by-thirds (suc (suc (suc (suc zero)))) first second g f s = rw (f, s, passed-sum) (omega (arith, falling))
  passed-by-thirds (suc (suc (suc (suc (suc n))))) first second g f s = omega (arith, falling)

-- ---- ranges
pub tangents-passed-le : (a b : ℕ) → tangents_passed a b ≤ 14
unfolding tangents_passed tangents
tangents-passed-le a b = count-le (λ (t : ℕ). leb (t * a) (b * 1000000)) tangents

pub quarter-le : (c : Point) → quarter c ≤ 3
unfolding quarter
quarter-le c = search (cond-le, rules)

pub turned-quarter-le : (c : Point) → (turned_of c).quarter ≤ 3
unfolding turned_of
turned-quarter-le c = quarter-le c

pub hue-le : (c : Point) → hue_of c ≤ 59
unfolding hue_of hue_at
hue-le c = omega (arith, turned-quarter-le c, tangents-passed-le (turned_of c).a (turned_of c).b)
