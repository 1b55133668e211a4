-- The test of a stretch: rules T1 to T6. Assumes nothing.
--   L, N, k      length h, total h, the total of a part
--   Mass         a part's fitted mass A/B (num/den)
--   bar, cost    Θ, and the largest weight W less Θ
use Rattle.std.specs.Prelude.{ℕ, suc, ◌+◌, ◌*◌, ◌-◌, ◌/◌, Bool, false, cond, ◌&&◌, ◌||◌, List, [], ◌∷◌, ltb, eqb, length, take, drop, get_or, ℤ, pos, negsuc, ◌+ℤ◌, ◌-ℤ◌, ◌*ℤ◌}
use Rattle.std.proofs.Math.IntN.{sub_ℕ}
use Rattle.std.specs.Int.Signed.{le_z}
use Rattle.lists.specs.Lists.{total, part, largest}
use Rattle.logarithm.specs.Log.{units_per_bit, lg}
use Rattle.pooling.specs.declared.Block.{Block}
use Rattle.pooling.specs.declared.Place.{Place}
use Rattle.pooling.specs.Blocks.{Direction, increasing, decreasing, blocks, places_from}
use Rattle.verdict.specs.declared.Mass.{Mass}
use Rattle.verdict.specs.declared.Verdict.{Verdict}

-- T4: how many bits of evidence a stretch must show before it is rejected, in addition to those that its number of parts calls for; if negative, how many fewer
abbrev pub Closeness : Type 0
Closeness = ℤ

-- G8: the least and the largest closeness that a call takes: −10 and 20
unfoldable pub least_closeness : Closeness
least_closeness = negsuc 9

unfoldable pub most_closeness : Closeness
most_closeness = pos 20

-- the place of bin i
unfoldable pub place_of : List Block → ℕ → Place
place_of bs i = get_or (places_from 0 bs) i (record { start = 0; block = record { sum = 0; len = 1 } })

-- T1: bins i to j of the block at p, with i ≤ j
unfoldable pub mass_within : Place → ℕ → ℕ → Mass
mass_within p i j = record { num = (suc j - i) * p.block.sum; den = p.block.len }

-- T2: `tail` bins of a first block, the counts between, and `head` bins of a last block, over the product of the two lengths
abbrev pub mass_of_three : (tail sum len between head last_sum last_len : ℕ) → Mass
mass_of_three tail sum len between head last_sum last_len = record {
  num = tail * sum * last_len + between * (len * last_len) + head * last_sum * len;
  den = len * last_len;
}

-- T2: the tail of the block at p, the bins between, the head of the block at q.
-- Bin i is in the first block, bin j in the second, and the first ends at or before the second's start, so no difference is ever negative
unfoldable pub mass_across : List ℕ → Place → Place → ℕ → ℕ → Mass
mass_across h p q i j =
    let next = p.start + p.block.len in
    mass_of_three (next - i) p.block.sum p.block.len (total (take (q.start - next) (drop next h))) (suc j - q.start) q.block.sum q.block.len

-- T1 or T2: the fitted mass of the part from bin i to bin j of the stretch h with these blocks
unfoldable pub fitted_mass : List ℕ → List Block → ℕ → ℕ → Mass
fitted_mass h bs i j =
    let p = place_of bs i in
    let q = place_of bs j in
    cond (eqb p.start q.start) (mass_within p i j) (mass_across h p q i j)

-- T3: the four terms, as one difference of two sums; a term whose factor is 0 is 0. k ≤ N and A ≤ NB, so no other difference is ever negative
unfoldable pub weight : ℕ → ℕ → Mass → ℤ
weight n k m =
    sub_ℕ (k * lg (k * m.den) + (n - k) * lg ((n - k) * m.den))
    (k * lg m.num + (n - k) * lg (n * m.den - m.num))

unfoldable pub part_weight : List ℕ → List Block → ℕ → ℕ → ℤ
part_weight h bs i j = weight (total h) (total (part i j h)) (fitted_mass h bs i j)

-- T4: a stretch of l bins has l(l+1)/2 parts. At a negative closeness the bar may be 0 or less
unfoldable pub bar : Closeness → ℕ → ℤ
bar e l = pos (lg (l * suc l / 2)) +ℤ e *ℤ pos units_per_bit

-- T5: over every part from i to j, i ≤ j, of a stretch of one bin or more
unfoldable pub largest_weight : List ℕ → List Block → ℤ
largest_weight h bs = largest (length h - 1) (λ j. largest j (λ i. part_weight h bs i j))

-- T5: the largest weight less the bar
unfoldable pub cost : Closeness → Direction → List ℕ → ℤ
cost e w h = largest_weight h (blocks w h) -ℤ bar e (length h)

-- T6: from a to b is a step against the direction
abbrev pub against : Direction → ℕ → ℕ → Bool
against increasing a b = ltb b a
against decreasing a b = ltb a b

-- T6: some step from a bin to the next goes against the direction
unfoldable pub step_against : Direction → List ℕ → Bool
step_against w [] = false
step_against w (a ∷ []) = false
step_against w (a ∷ b ∷ h) = against w a b || step_against w (b ∷ h)

-- T6: without a step against the direction, as in one bin alone, a stretch is never rejected, whatever it costs
unfoldable pub rejected : Closeness → Direction → List ℕ → Bool
rejected e w h = step_against w h && le_z (pos 0) (cost e w h)

-- T6: cost and rejection in one
unfoldable pub verdict_of : Closeness → Direction → List ℕ → Verdict
verdict_of e w h = record { cost = cost e w h; rejected = rejected e w h }
