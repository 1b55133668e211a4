-- The best weight that a search finds, up to a limit, gives the cost up to a cap. Assumes nothing.
use Prim.Native.Nat.{ℕ, zero, suc, ◌+◌, ◌-◌, ◌^◌, ◌≤◌, ◌<◌}
use mathlib.Core.Path.{◌≡◌, refl, sym, ap, ap₂, ◌∙◌}
use mathlib.Core.Bool.{Bool, true, false, cond, false≢true}
use mathlib.Core.Logic.{◌⊎◌, inl, inr, ⊎_elim}
use mathlib.Core.List.{List}
use native.Mathlib.Omega.{arith}
use lib.Dec.{leb-suc-suc}
use lib.ListN.{length}
use lib.IntN.{ℤ, pos, negsuc, suc_ℤ, pred_ℤ, neg_ℤ, ◌+ℤ◌, ◌-ℤ◌, +ℤ_idr, +ℤ-suc_ℤ, suc_ℤ-+ℤ, +ℤ-pred_ℤ, -ℤ-+ℤ_cancel, +ℤ-neg_ℤ_cancel}
use lib.Signed.{lt_z, le_z, mag, ◌≤ℤ◌, ≤ℤ_refl}
use borrow.Author.Tests.{lt-ltb, le-ltb}
use Rattle.lists.specs.Lists.{total, part}
use Rattle.lists.proofs.Cases.{by_cond, by_order}
use Rattle.lists.proofs.Signed.{le-trans-ℤ, lt-le-ℤ, nlt-le-ℤ, lt_no, le-antisym-ℤ, le-lt-ℤ, less-size}
use Rattle.pooling.specs.declared.Block.{Block}
use Rattle.pooling.specs.declared.Place.{Place}
use Rattle.pooling.specs.Blocks.{Direction, blocks}
use Rattle.pooling.specs.Limits.{Small}
use Rattle.pooling.proofs.Laws.{blocks-cut}
use Rattle.verdict.specs.Test.{Closeness, fitted_mass, part_weight, largest_weight, bar, cost}
use Rattle.verdict.specs.Settings.{Offered}
use Rattle.verdict.specs.declared.Best.{Best}
use Rattle.verdict.specs.Near.{Spares, NearUpTo}
use Rattle.verdict.specs.declared.parts.Turn.{Turn}
use Rattle.verdict.specs.declared.parts.Turn.TheVariants.{WithinBlocks, AcrossBlocks}
use Rattle.verdict.specs.Scratch.{PlacesHeld, start_of, Capped, Attained, BestOf, EndingAt, first_of, end_of, Visits, Part}
use Rattle.verdict.proofs.Range.{in-range}
use Rattle.verdict.proofs.Largest.{largest-part, part-largest}
use Rattle.verdict.proofs.Masses.{bin-place}
use Rattle.verdict.proofs.Whole.{whole-weight}
use Rattle.verdict.proofs.Sizes.{weight-small, bar-small}

-- ---- signed numbers
-- the larger of two is not below the first
pub larger-above : (x y z : ℤ) → z ≡ cond (lt_z x y) y x → x ≤ℤ z
larger-above x y z e = rw e (by_cond (λ (z : ℤ). x ≤ℤ z) (lt_z x y) y x (λ e. lt-le-ℤ x y e) (λ e. ≤ℤ_refl x))

less_one : (z c : ℤ) → lt_z (pred_ℤ z) c ≡ lt_z z (suc_ℤ c)
less_one (pos zero) (pos c) = sym (lt-ltb 0 (suc c) (omega arith))
less_one (pos zero) (negsuc zero) = refl
less_one (pos zero) (negsuc (suc c)) = le-ltb (suc c) 0 (omega arith)
less_one (pos (suc a)) (pos c) = sym (leb-suc-suc (suc a) c)
less_one (pos (suc a)) (negsuc zero) = sym (le-ltb (suc a) 0 (omega arith))
less_one (pos (suc a)) (negsuc (suc c)) = refl
less_one (negsuc a) (pos c) = refl
less_one (negsuc a) (negsuc zero) = lt-ltb 0 (suc a) (omega arith)
less_one (negsuc a) (negsuc (suc c)) = leb-suc-suc (suc c) a

-- z less b is below c exactly when z is below c and b more
pub less-below : (z c : ℤ) (b : ℕ) → lt_z (z -ℤ pos b) c ≡ lt_z z (c +ℤ pos b)
less-below z c zero = ap₂ lt_z (+ℤ_idr z) (sym (+ℤ_idr c))
less-below z c (suc b) =
    ap (λ (x : ℤ). lt_z x c) (one_less z b) ∙ less_one (z -ℤ pos b) c ∙ less-below z (suc_ℤ c) b
    ∙ ap (lt_z z) (suc_ℤ-+ℤ c (pos b) ∙ sym (+ℤ-suc_ℤ c (pos b)))
  where
    negative : (b : ℕ) → negsuc b ≡ pred_ℤ (neg_ℤ (pos b))
    negative zero = refl
    negative (suc b) = refl

    one_less : (z : ℤ) (b : ℕ) → z -ℤ pos (suc b) ≡ pred_ℤ (z -ℤ pos b)
    one_less z b = ap (λ (x : ℤ). z +ℤ x) (negative b) ∙ +ℤ-pred_ℤ z (neg_ℤ (pos b))

-- the same for what is taken off with either sign
pub less-any : (z c b : ℤ) → lt_z (z -ℤ b) c ≡ lt_z z (c +ℤ b)
less-any z c (pos b) = less-below z c b
less-any z c (negsuc b) =
    let p : ℤ = pos (suc b) in
    let y : ℤ = c -ℤ p in
    ap (lt_z (z +ℤ p)) (sym (-ℤ-+ℤ_cancel c p)) ∙ sym (less-below (z +ℤ p) y (suc b)) ∙ ap (λ (x : ℤ). lt_z x y) (+ℤ-neg_ℤ_cancel z p)

-- ---- a weight that is attained is small
pub attained-small : (w : Direction) (h : List ℕ) → Small h → (r : ℤ) → Attained h (blocks w h) r → mag r < 2 ^ 62 - 2 ^ 48
unfolding part_weight
attained-small w h small r a =
    let i = a.first in
    let j = a.last in
    rw a.weight
    (weight-small (total h) (total (part i j h)) (fitted_mass h (blocks w h) i j) (in-range w h small.bins small.counts i j a.ends.0 a.ends.1) small.counts)

-- the whole stretch weighs 0
pub whole-attained : (w : Direction) (h : List ℕ) → 1 ≤ length h → {r : ℤ} → r ≡ pos 0 → Attained h (blocks w h) r
whole-attained w h some e = record { first = 0; last = length h - 1; ends = (omega arith, omega arith); weight = e ∙ sym (whole-weight w h some) }

-- ---- a bin's block starts at the bin or before it
pub start-le : (w : Direction) (h : List ℕ) (ps : List Place) (j : ℕ) → PlacesHeld w h ps → j < length h → start_of ps j ≤ j
start-le w h ps j held l = omega (arith, ap (λ (p : Place). p.start) (held j l), bin-place (blocks-cut w h) j l)

pub end-le : (turn : Turn) (start j : ℕ) → start ≤ j → end_of turn start j ≤ suc j
end-le WithinBlocks start j l = omega arith
end-le AcrossBlocks start j l = omega arith

-- a part that a turn visits begins at its last bin or before it
pub turn-ordered : (w : Direction) (h : List ℕ) (ps : List Place) (turn : Turn) (i j : ℕ) → PlacesHeld w h ps → Visits turn ps (length h) i j → i ≤ j
turn-ordered w h ps WithinBlocks i j held v = omega arith
turn-ordered w h ps AcrossBlocks i j held v = omega (arith, start-le w h ps j held v.0)

-- ---- near parts are no better than the best so far
pub near-no-better : (w : Direction) (h : List ℕ) → Small h → (b : Best) → Spares (total h) b → (j first end : ℕ) → j < length h → end ≤ suc j
    → NearUpTo h (blocks w h) b.threshold j first end → (i : ℕ) → first ≤ i → i < end → part_weight h (blocks w h) i j ≤ℤ b.weight
unfolding part_weight
near-no-better w h small b s j first end l m near i f g =
    s.spares (total (part i j h)) (fitted_mass h (blocks w h) i j) (in-range w h small.bins small.counts i j (omega arith) l) (near i f g)

-- ---- the best of the parts visited
module _ (h : List ℕ) (bs : List Block) (limit : ℤ) where
  -- none is visited
  pub best_none : {visited : ℕ → ℕ → Type 0} {r : ℤ} → Attained h bs r → ((i j : ℕ) → visited i j → ⊥) → BestOf h bs limit visited r
  best_none a none = record { attained = a; bounds = λ e i j v. absurd (none i j v) }

  -- no other is visited
  pub best-same : {some all : ℕ → ℕ → Type 0} {r : ℤ} → BestOf h bs limit some r → ((i j : ℕ) → all i j → some i j) → BestOf h bs limit all r
  best-same b within = record { attained = b.attained; bounds = λ e i j v. b.bounds e i j (within i j v) }

  -- the limit is reached: the others need no visit
  pub best-stops : {some all : ℕ → ℕ → Type 0} {r : ℤ} → BestOf h bs limit some r → le_z limit r ≡ true → BestOf h bs limit all r
  best-stops {r = r} b e = record { attained = b.attained; bounds = λ f i j v. absurd (false≢true (sym (lt_no r limit (record { le = rw e tt })) ∙ f)) }

  -- more are visited, and the best is raised
  pub best-raised : {some more all : ℕ → ℕ → Type 0} {r s : ℤ} → BestOf h bs limit some r → r ≤ℤ s → BestOf h bs limit more s
      → ((i j : ℕ) → all i j → some i j ⊎ more i j) → BestOf h bs limit all s
  best-raised {r = r} {s = s} b u c either = record {
    attained = c.attained;
    bounds = λ e i j v. ⊎_elim
        (λ x. le-trans-ℤ (part_weight h bs i j) r s (b.bounds (le-lt-ℤ r s limit u e) i j x) u)
        (λ x. c.bounds e i j x)
        (either i j v);
  }

  -- one part is visited
  best-one : (i j : ℕ) (r : ℤ) → i ≤ j → j < length h → Attained h bs r
      → BestOf h bs limit (EndingAt j i (i + 1)) (cond (lt_z r (part_weight h bs i j)) (part_weight h bs i j) r)
  best-one i j r k l a =
      by_cond (λ (z : ℤ). BestOf h bs limit (EndingAt j i (i + 1)) z) (lt_z r (part_weight h bs i j)) (part_weight h bs i j) r
      (λ e. record {
        attained = record { first = i; last = j; ends = (k, l); weight = refl };
        bounds = λ f i' j' v. same i' j' v (≤ℤ_refl (part_weight h bs i j));
      })
      (λ e. record { attained = a; bounds = λ f i' j' v. same i' j' v (nlt-le-ℤ r (part_weight h bs i j) e) })
    where
      same : (i' j' : ℕ) → EndingAt j i (i + 1) i' j' → {z : ℤ} → part_weight h bs i j ≤ℤ z → part_weight h bs i' j' ≤ℤ z
      same i' j' v u =
          let a : i' ≡ i = omega arith in
          let b : j' ≡ j = omega arith in
          rw (a, b) u

  -- one part more, of those that end at bin j
  pub best-more : (first i j : ℕ) (r x s : ℤ) → i ≤ j → j < length h → BestOf h bs limit (EndingAt j first i) r
      → x ≡ part_weight h bs i j → s ≡ cond (lt_z r x) x r → BestOf h bs limit (EndingAt j first (i + 1)) s
  best-more first i j r x s k l b e f =
      let g : s ≡ cond (lt_z r (part_weight h bs i j)) (part_weight h bs i j) r = rw e at f in
      best-raised {more = EndingAt j i (i + 1)} b (larger-above r x s f) (rw g (best-one i j r k l b.attained))
      (λ a m v. by_order a i (λ u. inl (omega arith)) (λ u. inr (omega arith)))

  -- some parts more of those that end at bin j, none of them better
  pub best-no-better : (first i end j : ℕ) {r : ℤ} → BestOf h bs limit (EndingAt j first i) r → ((k : ℕ) → i ≤ k → k < end → part_weight h bs k j ≤ℤ r)
      → BestOf h bs limit (EndingAt j first end) r
  best-no-better first i end j {r = r} b none = record {
    attained = b.attained;
    bounds = λ e k m v. by_order k i (λ u. b.bounds e k m (v.0, v.1, u)) (λ u. rw v.0 (none k u v.2));
  }

  -- the parts of one bin more, in a turn
  pub best-bin : (turn : Turn) (ps : List Place) (j : ℕ) {r s : ℤ} → BestOf h bs limit (Visits turn ps j) r → r ≤ℤ s
      → BestOf h bs limit (EndingAt j (first_of turn (start_of ps j)) (end_of turn (start_of ps j) j)) s → BestOf h bs limit (Visits turn ps (j + 1)) s
  best-bin turn ps j b u c =
      best-raised b u c (λ i m v. by_order m j (λ l. inl (l, v.1, v.2)) (λ l. let e : m ≡ j = omega arith in inr (e, rw e at v.1, rw e at v.2)))

  -- all are visited: the best is the largest where that is below the limit, else it reaches the limit
  module _ (some : 0 < length h) (r : ℤ) (b : BestOf h bs limit (Part h) r) where
    best-le : r ≤ℤ largest_weight h bs
    best-le = let a = b.attained in rw a.weight (part-largest h bs a.first a.last a.ends.0 a.ends.1)

    best-ge : lt_z r limit ≡ true → largest_weight h bs ≤ℤ r
    best-ge e = let p = largest-part h bs some in rw p.4 (b.bounds e p.0 p.1 (p.2, p.3))

    pub best-largest : lt_z (largest_weight h bs) limit ≡ true → r ≡ largest_weight h bs
    best-largest e = le-antisym-ℤ r (largest_weight h bs) best-le (best-ge (le-lt-ℤ r (largest_weight h bs) limit best-le e))

    pub best-reaches : lt_z (largest_weight h bs) limit ≡ false → lt_z r limit ≡ false
    best-reaches e = go (lt_z r limit) refl
      where
        go : (t : Bool) → lt_z r limit ≡ t → t ≡ false
        go false f = refl
        go true f = absurd (false≢true (sym e ∙ le-lt-ℤ (largest_weight h bs) r limit (best-ge f) f))

-- ---- the cost
pub capped-cost-is : (e : Closeness) (w : Direction) (h : List ℕ) (cap r : ℤ) → Small h → 1 ≤ length h → Offered e
    → BestOf h (blocks w h) (cap +ℤ bar e (length h)) (Part h) r
    → Capped cap (cost e w h) (r -ℤ bar e (length h))
unfolding cost
capped-cost-is e w h cap r small some offered best =
    let height = bar e (length h) in
    let limit = cap +ℤ height in
    let largest = largest_weight h (blocks w h) in
    record {
      below = λ f. ap (λ (z : ℤ). z -ℤ height) (best-largest h (blocks w h) limit some r best (sym (less-any largest cap height) ∙ f));
      above = λ f. nlt-le-ℤ (r -ℤ height) cap (less-any r cap height ∙ best-reaches h (blocks w h) limit some r best (sym (less-any largest cap height) ∙ f));
      small = less-size r height (2 ^ 62) (omega (arith, attained-small w h small r best.attained, bar-small e (length h) offered some small.bins));
    }

-- ---- the cap that stands for none: no cost reaches it
below-mag : (z : ℤ) (n : ℕ) → mag z < n → lt_z z (pos n) ≡ true
below-mag (pos a) n l = lt-ltb a n l
below-mag (negsuc a) n l = refl

pub cost-below : (e : Closeness) (w : Direction) (h : List ℕ) → Small h → 1 ≤ length h → Offered e → lt_z (cost e w h) (pos (2 ^ 62 - 1)) ≡ true
unfolding cost
cost-below e w h small some offered =
    let b = bar e (length h) in
    let z = largest_weight h (blocks w h) in
    let found = largest-part h (blocks w h) some in
    let part : Attained h (blocks w h) z = record { first = found.0; last = found.1; ends = (found.2, found.3); weight = found.4 } in
    below-mag (z -ℤ b) (2 ^ 62 - 1) (less-size z b (2 ^ 62 - 1) (omega (arith, attained-small w h small z part, bar-small e (length h) offered some small.bins)))
