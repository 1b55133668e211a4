-- A log that is not that of the joins made leaves the way of joining somewhere, and one that is does not. Assumes nothing.
use Prim.Native.Nat.{ℕ, zero, suc, ◌≤◌}
use mathlib.Core.Path.{◌≡◌, refl, sym, ap, subst, ◌∙◌}
use mathlib.Core.Bool.{Bool, true, false, false≢true}
use mathlib.Core.List.{List, [], ◌∷◌, ◌++◌}
use mathlib.Core.Option.{Option, none, some}
use native.Mathlib.Omega.{arith}
use lib.IntN.{ℤ}
use lib.ListN.{length, take, drop, take-append-drop}
use Rattle.lists.specs.Lists.{maybe}
use Rattle.segmentation.specs.declared.Join.{Join}
use Rattle.segmentation.specs.Segments.{Segment}
use Rattle.segmentation.specs.Joining.{Joins}
use Rattle.segmentation.proofs.Settled.{Shortens}
use Rattle.joinlog.specs.JoinLog.{joins_made, record_of, numbers_of, record_numbers, log_of, same_numbers, Follows, joins_applied, FollowsSoFar, Leaves}
use Rattle.joinlog.proofs.Numbers.{same-logs, logs-equal, same-more}

module _ (w : Joins) where
  -- Departs, of any way of joining and from any segments on
  pub record Left (ss : List Segment) (log : List ℤ) : Type 0 where
    pub made : List Join
    pub rest : List ℤ
    pub read : log ≡ log_of made ++ rest
    pub follows : FollowsSoFar w made ss
    pub leaves : Leaves (w.next (joins_applied w made ss)) rest

  -- it leaves at once
  at_once : (ss : List Segment) (log : List ℤ) (o : Option Join) → w.next ss ≡ o → Leaves o log → Left ss log
  unfolding log_of joins_applied
  at_once ss log o q l = record { made = []; rest = log; read = refl; follows = tt; leaves = subst (λ (p : Option Join). Leaves p log) (sym q) l }

  -- it leaves after one record more
  after_one : (ss : List Segment) (log : List ℤ) (j : Join) → w.next ss ≡ some j → log ≡ numbers_of (record_of j) ++ drop record_numbers log
      → Left (w.after ss j) (drop record_numbers log) → Left ss log
  unfolding log_of joins_applied
  after_one ss log j q begins l = record {
    made = j ∷ l.made;
    rest = l.rest;
    read = begins ∙ ap (λ (xs : List ℤ). numbers_of (record_of j) ++ xs) l.read;
    follows = (q, l.follows);
    leaves = l.leaves;
  }

  none_left : (ss : List Segment) (log : List ℤ) → w.next ss ≡ none → same_numbers log [] ≡ false → Left ss log
  none_left ss log q f = at_once ss log none q (λ e. false≢true (sym f ∙ ap (λ (xs : List ℤ). same_numbers xs []) e ∙ same-logs []))

  pub other-leaves : Shortens w → (k : ℕ) (ss : List Segment) (log : List ℤ) → length ss ≤ k → same_numbers log (log_of (joins_made k w ss)) ≡ false → Left ss log
  unfolding joins_made log_of
  other-leaves s zero [] log l f = none_left [] log s.empty f
  other-leaves s zero (x ∷ ss) log l f = absurd (omega arith)
  other-leaves s (suc k) ss log l f = go (w.next ss) refl (other-leaves s k) f
    where
      record-or-not : (j : Join) → w.next ss ≡ some j → (t : Bool) → same_numbers (take record_numbers log) (numbers_of (record_of j)) ≡ t
          → (same_numbers (drop record_numbers log) (log_of (joins_made k w (w.after ss j))) ≡ false → Left (w.after ss j) (drop record_numbers log))
          → same_numbers log (log_of (j ∷ joins_made k w (w.after ss j))) ≡ false → Left ss log
      record-or-not j q true b ih g =
          let numbers = numbers_of (record_of j) in
          let later = log_of (joins_made k w (w.after ss j)) in
          let rest = drop record_numbers log in
          let begins : log ≡ numbers ++ rest = sym (take-append-drop record_numbers log) ∙ ap (λ (xs : List ℤ). xs ++ rest) (logs-equal (take record_numbers log) numbers b) in
          after_one ss log j q begins (ih (sym (ap (λ (xs : List ℤ). same_numbers xs (numbers ++ later)) begins ∙ same-more numbers rest later) ∙ g))
      record-or-not j q false b ih g =
          at_once ss log (some j) q (λ e. false≢true (sym b ∙ ap (λ (xs : List ℤ). same_numbers xs (numbers_of (record_of j))) e ∙ same-logs (numbers_of (record_of j))))

      go : (o : Option Join) → w.next ss ≡ o
          → ((ts : List Segment) (log : List ℤ) → length ts ≤ k → same_numbers log (log_of (joins_made k w ts)) ≡ false → Left ts log)
          → same_numbers log (log_of (maybe [] (λ j. j ∷ joins_made k w (w.after ss j)) o)) ≡ false → Left ss log
      go none q ih g = none_left ss log q g
      go (some j) q ih g =
          let d = s.fewer ss j q in
          record-or-not j q (same_numbers (take record_numbers log) (numbers_of (record_of j))) refl (ih (w.after ss j) (drop record_numbers log) (omega arith)) g

  -- a log that can be followed to its end never leaves
  pub never-leaves : (js made : List Join) (rest : List ℤ) (ss : List Segment) → Follows w js ss → FollowsSoFar w made ss
      → Leaves (w.next (joins_applied w made ss)) rest → log_of js ≡ log_of made ++ rest → ⊥
  unfolding log_of joins_applied
  never-leaves [] [] rest ss f g l e = subst (λ (o : Option Join). Leaves o rest) f l (sym e)
  never-leaves (j ∷ js) [] rest ss f g l e = subst (λ (o : Option Join). Leaves o rest) f.0 l (ap (λ (xs : List ℤ). take record_numbers xs) (sym e))
  never-leaves [] (m ∷ made) rest ss f g l e = let z : ◌≡◌ {A = ℕ} 0 1 = cc in omega arith
  never-leaves (j ∷ js) (m ∷ made) rest ss f g l e =
      let same : j ≡ m = cc in
      never-leaves js made rest (w.after ss m) (subst (λ (i : Join). Follows w js (w.after ss i)) same f.1) g.1 l (ap (λ (xs : List ℤ). drop record_numbers xs) e)
