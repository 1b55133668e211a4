-- A stretch that is already monotone in the tested direction is its own best fit: every weight is 0, and its cost is minus the bar. Assumes nothing.
use Prim.Native.Nat.{ℕ, zero, suc, ◌+◌, ◌*◌, ◌/◌, ◌≤◌, ◌<◌}
use mathlib.Core.Path.{◌≡◌, refl, sym, ap, ◌∙◌, subst}
use mathlib.Core.List.{List, [], ◌∷◌, map}
use native.Mathlib.Omega.{arith}
use native.Mathlib.Numerals.{add-one}
use native.Mathlib.Nat.{div-one, eq_of_mul-eq-mul_right}
use lib.Dec.{le→leb}
use lib.IntN.{ℤ, pos, neg_ℤ, nat_abs, ◌-ℤ◌, ℤ_discrete, +ℤ_idl, +ℤ_invr}
use lib.ListN.{length, take, get_or, length-map, get_or-map}
use Rattle.lists.specs.Lists.{total, part}
use Rattle.lists.proofs.Sums.{total-part, total-part-le, total-more}
use Rattle.pooling.specs.Blocks.{Direction, increasing, decreasing, blocks, spread}
use Rattle.pooling.specs.Fraction.{Fraction, ◌≈◌, Proper, Ordered, OrderedFrom, Follows, sq, error}
use Rattle.pooling.specs.Best.{mean, means, at}
use Rattle.pooling.proofs.Gap.{levels, Splits}
use Rattle.pooling.proofs.FittedLevels.{up_to, up-to-more, begins-splits}
use Rattle.pooling.proofs.Places.{nowhere, place-block}
use Rattle.pooling.proofs.Laws.{blocks-cut, fit-best}
use Rattle.pooling.proofs.Always.{denominator-exists, blocks-split}
use Rattle.verdict.specs.Test.{Closeness, place_of, fitted_mass, part_weight, bar, cost}
use Rattle.verdict.specs.Exactness.{InOrder, Monotone}
use Rattle.verdict.proofs.Terms.{weight-zero}
use Rattle.verdict.proofs.Masses.{bin-place, mass-levels}
use Rattle.verdict.proofs.Largest.{largest-part}

-- ---- the counts as fractions
abbrev counts : List ℕ → List Fraction
counts h = map (λ x. record { num = pos x; den = 1 }) h

counts-proper : (h : List ℕ) → Proper (counts h)
counts-proper [] = tt
counts-proper (x ∷ h) = (omega arith, counts-proper h)

counts-follow : (w : Direction) (a b : ℕ) → InOrder w a b → Follows w (record { num = pos a; den = 1 }) (record { num = pos b; den = 1 })
counts-follow increasing a b o = record { le = le→leb (a * 1) (b * 1) (omega arith) }
counts-follow decreasing a b o = record { le = le→leb (b * 1) (a * 1) (omega arith) }

counts-from : (w : Direction) (x : ℕ) (h : List ℕ) → Monotone w (x ∷ h) → OrderedFrom w (record { num = pos x; den = 1 }) (counts h)
counts-from w x [] m = tt
counts-from w x (y ∷ h) m = (counts-follow w x y (m 0 (omega arith)), counts-from w y h (λ i l. m (suc i) (omega arith)))

counts-ordered : (w : Direction) (h : List ℕ) → Monotone w h → Ordered w (counts h)
counts-ordered w [] m = tt
counts-ordered w (x ∷ h) m = counts-from w x h m

counts-exact : (D : ℕ) (h : List ℕ) → error D h (counts h) ≡ 0
counts-exact D [] = refl
counts-exact D (x ∷ h) =
    let e : pos (x * D) -ℤ pos (x * (D / 1)) ≡ pos 0 = ap (λ (n : ℕ). pos (x * D) -ℤ pos (x * n)) (div-one D) ∙ +ℤ_invr (pos (x * D)) in
    omega (arith, ap sq e, counts-exact D h)

-- ---- the means are the counts
count_at : (h : List ℕ) (i : ℕ) → at (counts h) i ≡ record { num = pos (get_or h i 0); den = 1 }
count_at h i = get_or-map (λ x. record { num = pos x; den = 1 }) h i 0

mean-count : (w : Direction) (h : List ℕ) → Monotone w h → (i : ℕ) → i < length h → at (means (blocks w h)) i ≈ at (counts h) i
mean-count w h m i l = go (ℤ_discrete _ _)
  where
    go : Dec (at (means (blocks w h)) i ≈ at (counts h) i) → at (means (blocks w h)) i ≈ at (counts h) i
    go (yes e) = e
    go (no n) =
        let best = fit-best w h in
        let c = denominator-exists (means (blocks w h)) (counts h) best.positive (counts-proper h) in
        let D = c.denominator in
        absurd (omega (
          arith,
          best.least_error (counts h) (length-map h _) (counts-proper h) (counts-ordered w h m) i l n D c.positive c.left c.right,
          counts-exact D h,
        ))

-- the sum of a block is its length times the count of each of its bins
sum-count : (w : Direction) (h : List ℕ) → Monotone w h → (i : ℕ) → i < length h → (place_of (blocks w h) i).block.sum ≡ get_or h i 0 * (place_of (blocks w h) i).block.len
unfolding place_of
sum-count w h m i l =
    let b = (place_of (blocks w h) i).block in
    let e : at (means (blocks w h)) i ≡ mean b = get_or-map mean (spread (blocks w h)) i nowhere.block ∙ ap mean (place-block (blocks w h) i) in
    let f : mean b ≈ record { num = pos (get_or h i 0); den = 1 } =
    subst (λ (z : Fraction). mean b ≈ z) (count_at h i) (subst (λ (z : Fraction). z ≈ at (counts h) i) e (mean-count w h m i l)) in
    omega (arith, ap nat_abs f)

-- ---- so the levels are the counts, times D
bin-level : (D a l s x F F' : ℕ) → a * l ≡ D → s ≡ x * l → F' ≡ F + s * a → F' ≡ F + D * x
bin-level D a l s x F F' hd hs h_f = omega (arith, ap (λ (z : ℕ). x * z) hd, ap (λ (z : ℕ). a * z) hs)

module _ (w : Direction) (h : List ℕ) (m : Monotone w h) where
  level-count : (D : ℕ) → Splits D (blocks w h) → (i : ℕ) → i < length h → up_to D (blocks w h) (suc i) ≡ up_to D (blocks w h) i + D * get_or h i 0
  level-count D v i l =
      let b = (place_of (blocks w h) i).block in
      let P = bin-place (blocks-cut w h) i l in
      bin-level D (D / b.len) b.len b.sum (get_or h i 0) _ _ (begins-splits P.begins v) (sum-count w h m i l) (up-to-more D P v)

  levels-counts : (D : ℕ) → Splits D (blocks w h) → (i : ℕ) → i ≤ length h → up_to D (blocks w h) i ≡ D * total (take i h)
  levels-counts D v zero l = omega arith
  levels-counts D v (suc i) l =
      omega (
        arith,
        level-count D v i l,
        levels-counts D v i (omega arith),
        ap (λ (z : ℕ). D * z) (ap (λ (n : ℕ). total (take n h)) (sym (add-one i)) ∙ total-more h i l),
      )

  -- the fitted mass of a part is its count
  pub mass-count : (i j : ℕ) → i ≤ j → j < length h → (fitted_mass h (blocks w h) i j).num ≡ total (part i j h) * (fitted_mass h (blocks w h) i j).den
  mass-count i j o l = let s = blocks-split w h in over s.0 s.1 s.2
    where
      over : (D : ℕ) → 0 < D → Splits D (blocks w h) → (fitted_mass h (blocks w h) i j).num ≡ total (part i j h) * (fitted_mass h (blocks w h) i j).den
      over D some v =
          let e : total (part i j (levels D (blocks w h))) ≡ D * total (part i j h) =
          omega (
            arith,
            total-part i j (levels D (blocks w h)) (omega arith),
            levels-counts D v i (omega arith),
            levels-counts D v (suc j) l,
            ap (λ (z : ℕ). D * z) (total-part i j h (omega arith)),
          ) in
          eq_of_mul-eq-mul_right D some _ _
          (mass-levels (blocks-cut w h) i j o l D v ∙ ap (λ (z : ℕ). (fitted_mass h (blocks w h) i j).den * z) e ∙ omega arith)

  part-weight-zero : (i j : ℕ) → i ≤ j → j < length h → part_weight h (blocks w h) i j ≡ pos 0
  unfolding part_weight
  part-weight-zero i j o l =
      weight-zero (total h) (total (part i j h)) (fitted_mass h (blocks w h) i j) (mass-count i j o l) (total-part-le i j h (omega arith))

  pub monotone-cost : (e : Closeness) → 1 ≤ length h → cost e w h ≡ neg_ℤ (bar e (length h))
  unfolding cost
  monotone-cost e some =
      let found = largest-part h (blocks w h) some in
      ap (λ (z : ℤ). z -ℤ bar e (length h)) (found.4 ∙ part-weight-zero found.0 found.1 found.2 found.3) ∙ +ℤ_idl _
