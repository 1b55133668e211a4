-- Each bin of a line that is cut into modes lies in exactly one of them: the last one that starts at or before the bin. Assumes nothing.
use Prim.Native.Nat.{ℕ, suc, ◌-◌, ◌≤◌, ◌<◌}
use mathlib.Core.Path.{◌≡◌, refl, ap}
use mathlib.Core.Bool.{Bool, true, false, ◌&&◌, ◌||◌, or-true}
use mathlib.Core.List.{List}
use lib.Dec.{leb, ltb, eqb}
use lib.ListN.{length}
use native.Mathlib.Omega.{arith}
use borrow.Author.Tests.{ltb-true, leb-true, eqb-true, le-leb, lt-ltb, eq-eqb}
use Rattle.lists.specs.Lists.{largest_that, ExactlyOne}
use Rattle.lists.proofs.Cases.{by_order}
use Rattle.lists.proofs.Connectives.{both_true}
use Rattle.lists.proofs.LargestThat.{largest-that-le, largest-that-passes, largest-that-above}
use Rattle.segmentation.specs.Segments.{Segment, segment_at, in_mode}
use Rattle.segmentation.specs.Finished.{Cut}
use Rattle.segmentation.proofs.Kept.{chain-starts}

-- ---- the test by what it says
module _ (ss : List Segment) (m b : ℕ) where
  pub in-mode : (segment_at ss m).start ≤ b → b < (segment_at ss m).end → in_mode ss m b ≡ true
  unfolding in_mode
  in-mode k l = rw (le-leb (segment_at ss m).start b k, lt-ltb b (segment_at ss m).end l)

  pub in-last-mode : (segment_at ss m).start ≤ b → suc m ≡ length ss → b ≡ (segment_at ss m).end → in_mode ss m b ≡ true
  unfolding in_mode
  in-last-mode k e l =
      rw (le-leb (segment_at ss m).start b k, eq-eqb (suc m) (length ss) e, eq-eqb b (segment_at ss m).end l) (or-true (ltb b (segment_at ss m).end))

  pub mode-from : in_mode ss m b ≡ true → (segment_at ss m).start ≤ b
  unfolding in_mode
  mode-from t = leb-true (segment_at ss m).start b (both_true (leb (segment_at ss m).start b) _ t).0

  pub mode-before : in_mode ss m b ≡ true → suc m < length ss → b < (segment_at ss m).end
  unfolding in_mode
  mode-before t l = go (ltb b (segment_at ss m).end) refl (both_true (leb (segment_at ss m).start b) _ t).1
    where
      go : (u : Bool) → ltb b (segment_at ss m).end ≡ u → (u || (eqb (suc m) (length ss) && eqb b (segment_at ss m).end)) ≡ true → b < (segment_at ss m).end
      go true q e = ltb-true b (segment_at ss m).end q
      go false q e = absurd (omega (arith, eqb-true (suc m) (length ss) (both_true (eqb (suc m) (length ss)) (eqb b (segment_at ss m).end) e).0))

module _ (bins : ℕ) (ss : List Segment) (c : Cut bins ss) (b : ℕ) (l : b < bins) where
  started : ℕ → Bool
  started m = leb (segment_at ss m).start b

  -- the last mode that starts at or before bin b
  mode : ℕ
  mode = largest_that started (length ss - 1)

  pub one-mode : ExactlyOne (length ss) (λ m. in_mode ss m b)
  unfolding started mode
  one-mode =
      let first : started 0 ≡ true = le-leb (segment_at ss 0).start b (omega (arith, c.from_first_bin)) in
      let n = length ss - 1 in
      let some = c.non_empty in
      let starts = leb-true (segment_at ss mode).start b (largest-that-passes started n 0 (omega arith) first) in
      let inside : mode < length ss = omega (arith, largest-that-le started n) in
      record {
        number = mode;
        in_range = inside;
        passes =
            by_order b (segment_at ss mode).end (in-mode ss mode b starts)
            (λ i. by_order (suc mode) (length ss)
            (λ k.
            let next = le-leb (segment_at ss (suc mode)).start b (omega (arith, c.chain.adjacent mode k)) in
            absurd (omega (arith, largest-that-above started n (suc mode) (omega arith) next)))
            (λ k.
            let last : mode ≡ n = omega arith in
            let end = ap (λ (m : ℕ). (segment_at ss m).end) last in
            in-last-mode ss mode b starts (omega arith) (omega (arith, c.to_last_bin))));
        only = λ m k t.
            let before : m ≤ mode = largest-that-above started n m (omega arith) (le-leb (segment_at ss m).start b (mode-from ss m b t)) in
            by_order m mode
            (λ i. absurd (omega (
              arith,
              mode-before ss m b t (omega arith),
              c.chain.adjacent m (omega arith),
              chain-starts ss c.chain (suc m) mode i inside,
            )))
            (λ i. omega arith);
      }
