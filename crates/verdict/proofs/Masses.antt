-- The fitted mass of a part as a sum of levels, and so as the mass that the fit gives it. Assumes nothing.
use Prim.Native.Nat.{ℕ, suc, ◌+◌, ◌*◌, ◌-◌, ◌/◌, ◌≤◌, ◌<◌}
use mathlib.Core.Path.{◌≡◌, sym, ap, ◌∙◌}
use mathlib.Core.List.{List}
use native.Mathlib.Omega.{arith}
use native.Mathlib.Nat.{mul-pos}
use borrow.Author.Tests.{eqb-true, eqb-false, eq-eqb, ne_eqb}
use lib.Dec.{eqb}
use lib.IntN.{pos, ◌*ℤ◌}
use lib.ListN.{length, take}
use Rattle.lists.specs.Lists.{total, part}
use Rattle.lists.proofs.Cases.{by_cond}
use Rattle.lists.proofs.Sums.{total-part}
use Rattle.lists.proofs.Parts.{total-take-add}
use Rattle.pooling.specs.declared.Block.{Block}
use Rattle.pooling.specs.declared.Place.{Place}
use Rattle.pooling.specs.Blocks.{Direction, blocks}
use Rattle.pooling.specs.Best.{CutInto}
use Rattle.pooling.proofs.Gap.{levels, Splits}
use Rattle.pooling.proofs.Cuts.{begins-sum, PlaceOf}
use Rattle.pooling.proofs.FittedLevels.{up_to, up-to, begins-splits}
use Rattle.pooling.proofs.Places.{place-of, places_same, places-apart}
use Rattle.pooling.proofs.Laws.{means-splits, means-part, blocks-cut}
use Rattle.verdict.specs.declared.Mass.{Mass}
use Rattle.verdict.specs.Test.{Closeness, place_of, mass_within, mass_across, fitted_mass}
use Rattle.verdict.specs.Exactness.{MassOfFit}

-- `place_of` gives the place of a bin
pub bin-place : {h : List ℕ} {bs : List Block} → CutInto h bs → (i : ℕ) → i < length h → PlaceOf h bs i (place_of bs i)
unfolding place_of
bin-place k i l = place-of k i l

-- ---- the fitted mass in levels
within-mass : (D a len s u n K before : ℕ) → a * len ≡ D → before + u * (s * a) + K ≡ before + (u + n) * (s * a) → n * s * D ≡ len * K
within-mass D a len s u n K before hd e = omega (arith, ap (λ (z : ℕ). z * len) e, ap (λ (z : ℕ). n * s * z) hd)

-- the tail of the first block; R is what follows it
tail-mass : (D a len s u m K R : ℕ) → a * len ≡ D → u + m ≡ len → K + u * (s * a) ≡ D * s + R → len * K ≡ m * s * D + len * R
tail-mass D a len s u m K R hd hl e =
    omega (arith, ap (λ (z : ℕ). len * z) e, ap (λ (z : ℕ). z * (u * s)) hd, ap (λ (z : ℕ). z * (D * s)) hl)

across-sum : (D lp lq tail between head G K : ℕ) → lp * K ≡ tail * D + lp * (D * between + G) → lq * G ≡ head * D
    → (tail * lq + between * (lp * lq) + head * lp) * D ≡ lp * lq * K
across-sum D lp lq tail between head G K e f = omega (arith, ap (λ (z : ℕ). lq * z) e, ap (λ (z : ℕ). lp * z) f)

across-mass : (D a b lp lq sp sq u m v K Tp Tq between Fi Fj : ℕ)
    → a * lp ≡ D → b * lq ≡ D → u + m ≡ lp → Tq ≡ Tp + sp + between
    → Fi ≡ D * Tp + u * (sp * a) → Fj ≡ D * Tq + v * (sq * b) → Fj ≡ Fi + K
    → (m * sp * lq + between * (lp * lq) + v * sq * lp) * D ≡ lp * lq * K
across-mass D a b lp lq sp sq u m v K Tp Tq between Fi Fj ha hb hl h_t hi hj h_k =
    let e : K + u * (sp * a) ≡ D * sp + (D * between + v * (sq * b)) = omega (arith, ap (λ (z : ℕ). D * z) h_t) in
    across-sum D lp lq (m * sp) between (v * sq) (v * (sq * b)) K (tail-mass D a lp sp u m K _ ha hl e) (omega (arith, ap (λ (z : ℕ). v * sq * z) hb))

module _ {h : List ℕ} {bs : List Block} {i j : ℕ} {p q : Place} (P : PlaceOf h bs i p) (Q : PlaceOf h bs j q) (o : i ≤ j) (D : ℕ) (w : Splits D bs) where
  within-levels : p.start ≡ q.start → (mass_within p i j).num * D ≡ (mass_within p i j).den * total (part i j (levels D bs))
  unfolding mass_within
  within-levels e =
      let same : p.block.len ≡ q.block.len = ap (λ (z : Place). z.block.len) (places_same P Q e) in
      let v = p.block.sum * (D / p.block.len) in
      let n : (i - p.start) + (suc j - i) ≡ suc j - p.start = omega (arith, P.from) in
      within-mass D (D / p.block.len) p.block.len p.block.sum (i - p.start) (suc j - i) _ (D * total (take p.start h)) (begins-splits P.begins w)
      (omega (
        arith,
        total-part i j (levels D bs) (omega arith),
        up-to D P w i P.from (omega (arith, P.to)),
        up-to D P w (suc j) (omega (arith, P.from)) (omega (arith, Q.to)),
        ap (λ (z : ℕ). z * v) n,
      ))

  across-levels : ¬ (p.start ≡ q.start) → (mass_across h p q i j).num * D ≡ (mass_across h p q i j).den * total (part i j (levels D bs))
  unfolding mass_across
  across-levels n =
      let a : p.start + p.block.len ≤ q.start = places-apart P Q o n in
      let next = p.start + p.block.len in
      let e : next + (q.start - next) ≡ q.start = omega arith in
      across-mass D (D / p.block.len) (D / q.block.len) p.block.len q.block.len p.block.sum q.block.sum
      (i - p.start) (next - i) (suc j - q.start) _ (total (take p.start h)) (total (take q.start h)) _ (up_to D bs i) (up_to D bs (suc j))
      (begins-splits P.begins w) (begins-splits Q.begins w) (omega (arith, P.from, P.to))
      (omega (arith, begins-sum P.begins, total-take-add next (q.start - next) h, ap (λ (z : ℕ). total (take z h)) e))
      (up-to D P w i P.from (omega (arith, P.to)))
      (up-to D Q w (suc j) (omega (arith, Q.from)) (omega (arith, Q.to)))
      (total-part i j (levels D bs) (omega arith))

-- the fitted mass by its two cases
pub mass-same : (h : List ℕ) (bs : List Block) (i j : ℕ) → (place_of bs i).start ≡ (place_of bs j).start → fitted_mass h bs i j ≡ mass_within (place_of bs i) i j
unfolding fitted_mass
mass-same h bs i j e = rw (eq-eqb _ _ e)

pub mass-apart : (h : List ℕ) (bs : List Block) (i j : ℕ) → ¬ ((place_of bs i).start ≡ (place_of bs j).start) → fitted_mass h bs i j ≡ mass_across h (place_of bs i) (place_of bs j) i j
unfolding fitted_mass
mass-apart h bs i j n = rw (ne_eqb _ _ n)

pub by_blocks {ℓ} : {h : List ℕ} {bs : List Block} → CutInto h bs → (i j : ℕ) → i ≤ j → j < length h → (G : Mass → Type ℓ)
    → (PlaceOf h bs i (place_of bs i) → PlaceOf h bs j (place_of bs j) → (place_of bs i).start ≡ (place_of bs j).start → G (mass_within (place_of bs i) i j))
    → (PlaceOf h bs i (place_of bs i) → PlaceOf h bs j (place_of bs j) → ¬ ((place_of bs i).start ≡ (place_of bs j).start) → G (mass_across h (place_of bs i) (place_of bs j) i j))
    → G (fitted_mass h bs i j)
unfolding fitted_mass
by_blocks {h = h} {bs = bs} k i j o l G f g =
    let P = bin-place k i (omega arith) in
    let Q = bin-place k j l in
    by_cond G (eqb (place_of bs i).start (place_of bs j).start) (mass_within (place_of bs i) i j) (mass_across h (place_of bs i) (place_of bs j) i j)
    (λ e. f P Q (eqb-true _ _ e)) (λ e. g P Q (eqb-false _ _ e))

-- A·D = B·(the sum of the levels over the part)
pub mass-levels : {h : List ℕ} {bs : List Block} → CutInto h bs → (i j : ℕ) → i ≤ j → j < length h → (D : ℕ) → Splits D bs
    → (fitted_mass h bs i j).num * D ≡ (fitted_mass h bs i j).den * total (part i j (levels D bs))
mass-levels {bs = bs} k i j o l D w =
    by_blocks k i j o l (λ (m : Mass). m.num * D ≡ m.den * total (part i j (levels D bs)))
    (λ P Q e. within-levels P Q o D w e) (λ P Q n. across-levels P Q o D w n)

pub mass-positive : {h : List ℕ} {bs : List Block} → CutInto h bs → (i j : ℕ) → i ≤ j → j < length h → 0 < (fitted_mass h bs i j).den
unfolding mass_within mass_across
mass-positive k i j o l =
    by_blocks k i j o l (λ (m : Mass). 0 < m.den)
    (λ P Q e. omega (arith, P.from, P.to)) (λ P Q n. mul-pos (omega (arith, P.from, P.to)) (omega (arith, Q.from, Q.to)))

-- ---- the fitted mass is the fit's
pub mass-of-fit : (e : Closeness) (w : Direction) (h : List ℕ) (i j : ℕ) → i ≤ j → j < length h → MassOfFit e w h i j
mass-of-fit e w h i j o l = record {
  positive = mass-positive (blocks-cut w h) i j o l;
  mass = λ D some m.
      ap pos (mass-levels (blocks-cut w h) i j o l D (means-splits (blocks-cut w h) D m))
      ∙ ap (λ z. pos (fitted_mass h (blocks w h) i j).den *ℤ z) (sym (means-part D (blocks w h) i j));
}
