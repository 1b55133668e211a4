-- Each place of a ring that is cut into modes lies in exactly one of them, there or a turn later. Assumes nothing.
use Prim.Native.Nat.{ℕ, suc, ◌+◌, ◌-◌, ◌≤◌, ◌<◌}
use mathlib.Core.Path.{◌≡◌, refl, ap}
use mathlib.Core.Bool.{Bool, true, false, ◌&&◌, ◌||◌, false≢true, or-true}
use mathlib.Core.List.{List}
use lib.Dec.{leb, ltb}
use lib.ListN.{length}
use native.Mathlib.Omega.{arith}
use borrow.Author.Tests.{ltb-true, leb-true, le-leb, lt-ltb}
use Rattle.lists.specs.Lists.{largest_that, ExactlyOne}
use Rattle.lists.proofs.Cases.{by_order}
use Rattle.lists.proofs.LargestThat.{largest-that-le, largest-that-passes, largest-that-above}
use Rattle.segmentation.specs.Segments.{Segment, segment_at}
use Rattle.segmentation.proofs.Kept.{chain-starts, chain-ends}
use Rattle.segmentation.specs.Ring.{in_arc, in_round}
use Rattle.segmentation.specs.Finished.{RingCut}

-- ---- the test by what it says
pub in-arc : (s : Segment) (p : ℕ) → s.start ≤ p → p < s.end → in_arc s p ≡ true
in-arc s p a b = rw (le-leb s.start p a, lt-ltb p s.end b) refl

pub arc-ends : (s : Segment) (p : ℕ) → in_arc s p ≡ true → (s.start ≤ p) × (p < s.end)
arc-ends s p t = go (leb s.start p) (ltb p s.end) refl refl t
  where
    go : (x y : Bool) → leb s.start p ≡ x → ltb p s.end ≡ y → (x && y) ≡ true → (s.start ≤ p) × (p < s.end)
    go true true a b e = (leb-true s.start p a, ltb-true p s.end b)
    go true false a b e = absurd (false≢true e)
    go false y a b e = absurd (false≢true e)

either : (x y : Bool) (P : Type 0) → (x ≡ true → P) → (y ≡ true → P) → (x || y) ≡ true → P
either true y P f g e = f refl
either false y P f g e = g e

pub left_or : (x y : Bool) → x ≡ true → (x || y) ≡ true
left_or x y e = rw e refl

pub right_or : (x y : Bool) → y ≡ true → (x || y) ≡ true
right_or x y e = rw e (or-true x)

module _ (bins : ℕ) (ss : List Segment) (c : RingCut bins ss) (p : ℕ) (l : p < bins) where
  first : ℕ
  first = (segment_at ss 0).start

  arc-within : (m : ℕ) → m < length ss → (q : ℕ) → in_arc (segment_at ss m) q ≡ true → (first ≤ q) × (q < first + bins)
  unfolding first
  arc-within m k q t =
      let r = arc-ends (segment_at ss m) q t in
      let a = chain-starts ss c.chain 0 m (omega arith) k in
      let b = chain-ends ss c.chain m (length ss - 1) (omega arith) (omega arith) in
      (omega (arith, r.0), omega (arith, r.1, c.once_round))

  -- with q the place or that a turn later, whichever lies between the first separator and that a turn later
  module _ (q : ℕ) (low : first ≤ q) (high : q < first + bins)
      (there : (m : ℕ) → in_arc (segment_at ss m) q ≡ true → in_round bins ss m p ≡ true)
      (back : (m : ℕ) → m < length ss → in_round bins ss m p ≡ true → in_arc (segment_at ss m) q ≡ true) where
    started : ℕ → Bool
    started m = leb (segment_at ss m).start q

    mode : ℕ
    mode = largest_that started (length ss - 1)

    one_of : ExactlyOne (length ss) (λ m. in_round bins ss m p)
    unfolding first started mode
    one_of =
        let begun : started 0 ≡ true = le-leb (segment_at ss 0).start q low in
        let n = length ss - 1 in
        let some = c.non_empty in
        let from = leb-true (segment_at ss mode).start q (largest-that-passes started n 0 (omega arith) begun) in
        let inside : mode < length ss = omega (arith, largest-that-le started n) in
        record {
          number = mode;
          in_range = inside;
          passes = there mode
              (by_order q (segment_at ss mode).end (in-arc (segment_at ss mode) q from)
              (λ i. by_order (suc mode) (length ss)
              (λ k.
              let next = le-leb (segment_at ss (suc mode)).start q (omega (arith, c.chain.adjacent mode k)) in
              absurd (omega (arith, largest-that-above started n (suc mode) (omega arith) next)))
              (λ k.
              let last : mode ≡ n = omega arith in
              let end = ap (λ (m : ℕ). (segment_at ss m).end) last in
              absurd (omega (arith, c.once_round)))));
          only = λ m k t.
              let r = arc-ends (segment_at ss m) q (back m k t) in
              let before : m ≤ mode = largest-that-above started n m (omega arith) (le-leb (segment_at ss m).start q r.0) in
              by_order m mode
              (λ i. absurd (omega (arith, r.1, c.chain.adjacent m (omega arith), chain-starts ss c.chain (suc m) mode i inside)))
              (λ i. omega arith);
        }

  pub round-one : ExactlyOne (length ss) (λ m. in_round bins ss m p)
  unfolding first in_round
  round-one =
      by_order p first
      (λ a.
      let f = c.first_turn 0 c.non_empty in
      one_of (p + bins) (omega arith) (omega arith)
      (λ m t. right_or (in_arc (segment_at ss m) p) (in_arc (segment_at ss m) (p + bins)) t)
      (λ m k. either (in_arc (segment_at ss m) p) (in_arc (segment_at ss m) (p + bins)) (in_arc (segment_at ss m) (p + bins) ≡ true)
      (λ t. absurd (omega (arith, (arc-within m k p t).0))) (λ t. t)))
      (λ a.
      one_of p a (omega arith)
      (λ m t. left_or (in_arc (segment_at ss m) p) (in_arc (segment_at ss m) (p + bins)) t)
      (λ m k. either (in_arc (segment_at ss m) p) (in_arc (segment_at ss m) (p + bins)) (in_arc (segment_at ss m) p ≡ true)
      (λ t. t) (λ t. absurd (omega (arith, (arc-within m k (p + bins) t).1)))))
