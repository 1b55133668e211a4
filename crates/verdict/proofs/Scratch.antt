-- The tables of a stretch hold what the code reads from them: running totals, places, and what follows for the two ends of a part. Assumes nothing.
use Prim.Native.Nat.{ℕ, suc, ◌+◌, ◌-◌, ◌≤◌, ◌<◌}
use mathlib.Core.Path.{◌≡◌, sym, ap, ap₂, ◌∙◌}
use mathlib.Core.List.{List}
use native.Mathlib.Numerals.{add-one}
use native.Mathlib.Omega.{arith}
use lib.ListN.{length, get_or, take, drop, set}
use lib.Seq.{get_or-set_same, get_or-set_other}
use Rattle.lists.specs.Lists.{total, part, over}
use Rattle.lists.proofs.Cases.{last_or}
use Rattle.lists.proofs.Sums.{total-more}
use Rattle.lists.proofs.Parts.{total-take-add}
use Rattle.lists.proofs.Buffers.{over-at}
use Rattle.pooling.specs.declared.Place.{Place}
use Rattle.pooling.specs.Blocks.{Direction, blocks, places}
use Rattle.pooling.proofs.Cuts.{begins-fits, PlaceOf, place-sum-le}
use Rattle.pooling.proofs.Places.{place-covers, places-apart, places-length}
use Rattle.pooling.proofs.Laws.{blocks-cut}
use Rattle.verdict.specs.Test.{place_of, mass_within, mass_across, fitted_mass}
use Rattle.verdict.specs.declared.parts.Turn.TheVariants.{WithinBlocks, AcrossBlocks}
use Rattle.verdict.specs.Scratch.{RunningTotals, PlacesHeld, start_of, Across, Visits}
use Rattle.verdict.proofs.Masses.{bin-place, mass-same, mass-apart}

-- ---- the running totals, filled from the first bin on
-- the totals before bin i and those of the bins before it
abbrev pub Filled : List ℕ → List ℕ → ℕ → Type 0
Filled h before i = (k : ℕ) → k ≤ i → get_or before k 0 ≡ total (take k h)

pub filled_none : (h before : List ℕ) → 0 < length before → Filled h (set before 0 0) 0
filled_none h before l k z =
    let e : k ≡ 0 = omega arith in
    rw e (get_or-set_same before 0 0 0 l)

pub filled_more : (h before : List ℕ) (i sum : ℕ) → i < length h → i + 1 < length before → sum ≡ total (take i h) → Filled h before i
    → Filled h (set before (i + 1) (sum + get_or h i 0)) (i + 1)
filled_more h before i sum l m e f k b =
    last_or k i (omega arith)
    (λ u. get_or-set_other before (i + 1) k _ 0 (omega arith) ∙ f k u)
    (λ u. let v : k ≡ i + 1 = omega arith in rw v (get_or-set_same before (i + 1) _ 0 m ∙ rw e (sym (total-more h i l))))

-- the counts from bin a up to bin b, from the totals before the two
pub running-between : (h before : List ℕ) (a b : ℕ) → a ≤ b → b ≤ length h → RunningTotals h before
    → get_or before b 0 ≡ get_or before a 0 + total (take (b - a) (drop a h))
running-between h before a b l m r =
    let e : b ≡ a + (b - a) = omega arith in
    r b m ∙ ap (λ (n : ℕ). total (take n h)) e ∙ omega (arith, total-take-add a (b - a) h, r a (omega arith))

-- the counts of a part, from the totals before its first bin and behind its last
pub running-part : (h before : List ℕ) (i j : ℕ) → i ≤ j → j < length h → RunningTotals h before
    → get_or before (j + 1) 0 ≡ get_or before i 0 + total (part i j h)
unfolding part
running-part h before i j a b r = rw add-one (running-between h before i (suc j) (omega arith) b r)

-- ---- the list that a fit fills holds each bin's place
pub places-held : (w : Direction) (h : List ℕ) (ps buffer : List Place) → ps ≡ over (places w h) buffer → PlacesHeld w h ps
unfolding place_of places
places-held w h ps buffer e i l = rw e (over-at (places w h) buffer i _ _ (omega (arith, places-length w h)))

-- where the block of bin j begins, and the parts that a turn visits before and behind that
module _ (w : Direction) (h : List ℕ) (ps : List Place) (j : ℕ) (held : PlacesHeld w h ps) (q : Place) (e : q ≡ place_of (blocks w h) j) (i : ℕ) where
  held-start : j < length h → start_of ps j ≡ q.start
  held-start l = ap (λ (p : Place). p.start) (held j l ∙ sym e)

  pub visited-within : Visits WithinBlocks ps (length h) i j → q.start ≤ i
  visited-within v = omega (arith, v.1, held-start v.0)

  pub visited-across : Visits AcrossBlocks ps (length h) i j → i < q.start
  visited-across v = omega (arith, v.2, held-start v.0)

-- ---- p and q, the places of bins i and j
module _ (w : Direction) (h : List ℕ) (i : ℕ) (p : Place) (e : p ≡ place_of (blocks w h) i) where
  spot-place : i < length h → PlaceOf h (blocks w h) i p
  spot-place l = rw e (bin-place (blocks-cut w h) i l)

  pub spot-sum-le : i < length h → p.block.sum ≤ total h
  spot-sum-le l = place-sum-le (spot-place l)

  -- it is that of every bin of its block
  spot-covers : i < length h → (k : ℕ) → p.start ≤ k → k ≤ i → p ≡ place_of (blocks w h) k
  unfolding place_of
  spot-covers l k a b = let s = spot-place l in sym (place-covers s k a (omega (arith, s.to)))

  -- a part within the block
  pub spot-within : i < length h → (k : ℕ) → p.start ≤ k → k ≤ i → mass_within p k i ≡ fitted_mass h (blocks w h) k i
  spot-within l k a b =
      let c = spot-covers l k a b in
      ap (λ (x : Place). mass_within x k i) c ∙ sym (mass-same h (blocks w h) k i (ap (λ (x : Place). x.start) (sym c ∙ e)))

  module _ (j : ℕ) (q : Place) (f : q ≡ place_of (blocks w h) j) where
    -- a bin before the block of bin j lies in another
    pub spots-differ : i < length h → i < q.start → ¬ (p.start ≡ q.start)
    spots-differ l a n = omega (arith, (spot-place l).from)

    pub spots-apart : ¬ (p.start ≡ q.start) → mass_across h p q i j ≡ fitted_mass h (blocks w h) i j
    spots-apart n = ap₂ (λ (x y : Place). mass_across h x y i j) e f ∙ sym (mass-apart h (blocks w h) i j (rw (e, f) at n))

    pub spots-across : i ≤ j → j < length h → ¬ (p.start ≡ q.start) → Across h p q i j
    spots-across a b n =
        let s = spot-place (omega arith) in
        let t : PlaceOf h (blocks w h) j q = rw f (bin-place (blocks-cut w h) j b) in
        record {
          first = s.to;
          apart = places-apart s t a n;
          last = (t.from, t.to);
          inside = begins-fits t.begins;
          sums = (place-sum-le s, place-sum-le t);
        }
