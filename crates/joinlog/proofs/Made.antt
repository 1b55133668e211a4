-- The joins that are made in turn: they follow the way of joining, no others do, and they leave what `join_all` leaves. Assumes nothing.
use Prim.Native.Nat.{ℕ, zero, suc, ◌+◌, ◌≤◌}
use mathlib.Core.Path.{◌≡◌, refl, sym, ap, subst, ◌∙◌}
use mathlib.Core.List.{List, [], ◌∷◌}
use mathlib.Core.Option.{Option, none, some}
use native.Mathlib.Omega.{arith}
use lib.ListN.{length}
use Rattle.lists.specs.Lists.{maybe}
use Rattle.lists.proofs.Missing.{none-some}
use Rattle.segmentation.specs.Segments.{Segment}
use Rattle.segmentation.specs.declared.Join.{Join}
use Rattle.segmentation.specs.Joining.{Joins, join_all}
use Rattle.segmentation.specs.Held.{segments_held}
use Rattle.segmentation.proofs.Holding.{held-length}
use Rattle.segmentation.proofs.Settled.{Shortens}
use Rattle.joinlog.specs.JoinLog.{joins_made, Follows, joins_applied}

module _ (w : Joins) where
  -- where no join comes next, none is made
  pub made_none : (k : ℕ) (ss : List Segment) → w.next ss ≡ none → joins_made k w ss ≡ []
  unfolding joins_made
  made_none zero ss q = refl
  made_none (suc k) ss q = ap (maybe [] (λ j. j ∷ joins_made k w (w.after ss j))) q

  pub made-applied : (k : ℕ) (ss : List Segment) → joins_applied w (joins_made k w ss) ss ≡ join_all k w ss
  unfolding joins_made joins_applied join_all
  made-applied zero ss = refl
  made-applied (suc k) ss = go (w.next ss) (made-applied k)
    where
      go : (o : Option Join) → ((ts : List Segment) → joins_applied w (joins_made k w ts) ts ≡ join_all k w ts)
          → joins_applied w (maybe [] (λ j. j ∷ joins_made k w (w.after ss j)) o) ss ≡ maybe ss (λ j. join_all k w (w.after ss j)) o
      go none ih = refl
      go (some j) ih = ih (w.after ss j)

  some_same : {o : Option Join} (i j : Join) → o ≡ some i → o ≡ some j → i ≡ j
  some_same i j p q = cc

  -- no two lists of joins follow
  pub follows-only : (is js : List Join) (ss : List Segment) → Follows w is ss → Follows w js ss → is ≡ js
  follows-only [] [] ss p q = refl
  follows-only [] (j ∷ js) ss p q = none-some j (sym p ∙ q.0)
  follows-only (i ∷ is) [] ss p q = none-some i (sym q ∙ p.0)
  follows-only (i ∷ is) (j ∷ js) ss p q =
      let z : i ≡ j = some_same i j p.0 q.0 in
      let r : is ≡ js = follows-only is js (w.after ss j) (subst (λ (m : Join). Follows w is (w.after ss m)) z p.1) q.1 in
      λ t. z t ∷ r t

  module _ (s : Shortens w) where
    -- as many steps as segments are enough to follow it to its end
    pub made-follows : (k : ℕ) (ss : List Segment) → length ss ≤ k → Follows w (joins_made k w ss) ss
    unfolding joins_made
    made-follows zero [] l = s.empty
    made-follows zero (x ∷ ss) l = absurd (omega arith)
    made-follows (suc k) ss l = go (w.next ss) refl (made-follows k)
      where
        go : (o : Option Join) → w.next ss ≡ o → ((ts : List Segment) → length ts ≤ k → Follows w (joins_made k w ts) ts)
            → Follows w (maybe [] (λ j. j ∷ joins_made k w (w.after ss j)) o) ss
        go none q ih = q
        go (some j) q ih = let d = s.fewer ss j q in (q, ih (w.after ss j) (omega arith))

    -- one join, with as many steps as segments before it and after it
    pub made-step : (ss : List Segment) (j : Join) → w.next ss ≡ some j → joins_made (length ss) w ss ≡ j ∷ joins_made (length (w.after ss j)) w (w.after ss j)
    made-step ss j q =
        follows-only (joins_made (length ss) w ss) (j ∷ joins_made (length (w.after ss j)) w (w.after ss j)) ss
        (made-follows (length ss) ss (omega arith))
        (q, made-follows (length (w.after ss j)) (w.after ss j) (omega arith))

    -- each join drops a segment or more
    pub made-drop : (k : ℕ) (ss : List Segment) → length (joins_made k w ss) + length (join_all k w ss) ≤ length ss
    unfolding joins_made join_all
    made-drop zero ss = omega arith
    made-drop (suc k) ss = go (w.next ss) refl (made-drop k)
      where
        go : (o : Option Join) → w.next ss ≡ o → ((ts : List Segment) → length (joins_made k w ts) + length (join_all k w ts) ≤ length ts)
            → length (maybe [] (λ j. j ∷ joins_made k w (w.after ss j)) o) + length (maybe ss (λ j. join_all k w (w.after ss j)) o) ≤ length ss
        go none q ih = omega arith
        go (some j) q ih = let d = s.fewer ss j q in omega (arith, ih (w.after ss j))

-- ---- segments that are held: the join that comes next, and those left to make behind it
pub held-made : (w : Joins) → Shortens w → (s p : List ℕ) (n : ℕ) (j : Join) → w.next (segments_held s p 0 n) ≡ some j →
    let after = w.after (segments_held s p 0 n) j in
    joins_made n w (segments_held s p 0 n) ≡ j ∷ joins_made (length after) w after
held-made w shortens s p n j next = ap (λ (k : ℕ). joins_made k w (segments_held s p 0 n)) (sym (held-length s p 0 n)) ∙ made-step w shortens (segments_held s p 0 n) j next

-- the joins of segments that are held are those of these segments
pub made_held : (w : Joins) (s p : List ℕ) (n : ℕ) (ss : List Segment) → segments_held s p 0 n ≡ ss → joins_made n w (segments_held s p 0 n) ≡ joins_made (length ss) w ss
made_held w s p n ss q = ap (joins_made n w) q ∙ ap (λ (k : ℕ). joins_made k w ss) (sym (held-length s p 0 n) ∙ ap length q)
