-- The search for the next join: how the cost of a run is chosen, and the search from left to right and over the lengths. Assumes nothing.
use Prim.Native.Nat.{ℕ, suc, ◌+◌, ◌-◌, ◌^◌, ◌≤◌, ◌<◌}
use mathlib.Core.Path.{◌≡◌, refl, sym, ap, subst, ◌∙◌}
use mathlib.Core.Bool.{Bool, true, false, cond, false≢true}
use mathlib.Core.List.{List, map}
use mathlib.Core.Option.{Option, none, some, none-ne-some, some-ne-none}
use Rattle.std.specs.Prelude.{Some, None, is_some, Option as Found}
use native.Mathlib.Numerals.{add-one}
use native.Mathlib.Omega.{arith}
use lib.ListN.{get_or}
use lib.IntN.{ℤ, pos}
use lib.Signed.{lt_z, mag, ◌≤ℤ◌}
use Rattle.lists.specs.Lists.{part, first_that, numbers}
use Rattle.lists.proofs.Cases.{by_cond}
use Rattle.lists.proofs.Signed.{nlt-le-ℤ, lt-le-ℤ, lt_no, lt-le-lt, le-antisym-ℤ}
use Rattle.std.specs.Int.{int_min}
use Rattle.lists.proofs.Leasts.{least_of, found_among, none_found, found-lowest}
use Rattle.pooling.specs.Blocks.{increasing, decreasing}
use Rattle.verdict.specs.Test.{Closeness, cost}
use Rattle.verdict.specs.Scratch.{Capped}
use Rattle.segmentation.specs.Joining.{Join, Reader, line_reader, rise_of, fall_of, rise_cost, fall_cost, join_of, last_start, cheapest, next_among}
use Rattle.segmentation.specs.Segments.{Segment}
use Rattle.segmentation.specs.Held.{segments_held, join_found}
use Rattle.segmentation.specs.Runs.{RunBelow, join_by, where_below, held_count}
use Rattle.segmentation.proofs.Holding.{held_at}

-- the run that the definition has, by its two costs
pub run_is : (e : Closeness) (h s p : List ℕ) (n i len : ℕ) → 1 ≤ len → i + len ≤ n
    → join_of e (line_reader h) (segments_held s p 0 n) i len
    ≡ join_by i len (cost e increasing (part (get_or s i 0) (get_or p (i + len - 1) 0) h)) (cost e decreasing (part (get_or p i 0) (get_or s (i + len) 0) h))
unfolding join_of rise_cost fall_cost rise_of fall_of
run_is e h s p n i len one fit =
    let k : suc (i + len - 1) ≡ i + len = omega arith in
    rw (held_at s p n i (omega arith), held_at s p n (i + len - 1) (omega arith), k) refl

-- S4: the smaller of two costs, as the library has it and as the definitions do
pub min-is : (x y : ℤ) → int_min x y ≡ cond (lt_z x y) x y
min-is x y = go (lt_z x y) (lt_z y x) refl refl
  where
    go : (t u : Bool) → lt_z x y ≡ t → lt_z y x ≡ u → cond u y x ≡ cond t x y
    go true true e f = absurd (false≢true (sym (lt_no x y (lt-le-ℤ y x f)) ∙ e))
    go true false e f = refl
    go false true e f = refl
    go false false e f =
        let a : y ≤ℤ x = nlt-le-ℤ x y e in
        let b : x ≤ℤ y = nlt-le-ℤ y x f in
        le-antisym-ℤ x y b a

-- ---- the choice of a run's cost, from the fall's and the rise's, each with its cap
module _ (least f r F R : ℤ) (cf : Capped least f F) (i n : ℕ) where
  small-choice : {cap : ℤ} → Capped cap r R → mag (join_by i n R F).cost < 2 ^ 62
  small-choice cr = by_cond (λ (z : ℤ). mag z < 2 ^ 62) (lt_z R F) R F (λ e. cr.small) (λ e. cf.small)

  exactly : {cap : ℤ} → Capped cap r R → join_by i n R F ≡ join_by i n r f → RunBelow least (join_by i n r f) (join_by i n R F)
  exactly cr e = record {
    below = λ t. e;
    above = λ t. let k = nlt-le-ℤ (join_by i n r f).cost least t in subst (λ (j : Join). least ≤ℤ j.cost) (sym e) k;
    small = small-choice cr;
  }

  not-below : (x y : ℤ) → least ≤ℤ x → least ≤ℤ y → least ≤ℤ cond (lt_z x y) x y
  not-below x y h k = by_cond (λ (z : ℤ). least ≤ℤ z) (lt_z x y) x y (λ e. h) (λ e. k)

  -- with the fall below `least`, which is then exact and the cap of the rise
  fall-below : lt_z f least ≡ true → (t : Bool) → lt_z r f ≡ t → Capped f r R → RunBelow least (join_by i n r f) (join_by i n R F)
  fall-below l true u cr = exactly cr (rw (cr.below u, cf.below l) refl)
  fall-below l false u cr =
      let e = cf.below l in
      let no : lt_z R F ≡ false = rw e (lt_no R f (cr.above u)) in
      exactly cr (rw (no, u, e) refl)

  -- with the fall not below `least`, which is then the cap of the rise
  fall-above : lt_z f least ≡ false → (t : Bool) → lt_z r least ≡ t → Capped least r R → RunBelow least (join_by i n r f) (join_by i n R F)
  fall-above l true u cr =
      let yes : lt_z r f ≡ true = lt-le-lt r least f u (nlt-le-ℤ f least l) in
      let also : lt_z r F ≡ true = lt-le-lt r least F u (cf.above l) in
      exactly cr (rw (cr.below u, also, yes) refl)
  fall-above l false u cr =
      let k = not-below r f (nlt-le-ℤ r least u) (nlt-le-ℤ f least l) in
      record {
        below = λ t. let no : false ≡ true = sym (lt_no (cond (lt_z r f) r f) least k) ∙ t in absurd (false≢true no);
        above = λ t. not-below R F (cr.above u) (cf.above l);
        small = small-choice cr;
      }

  pub choice : Capped (cond (lt_z F least) F least) r R → RunBelow least (join_by i n r f) (join_by i n R F)
  choice cr = go (lt_z f least) refl
    where
      go : (t : Bool) → lt_z f least ≡ t → RunBelow least (join_by i n r f) (join_by i n R F)
      go true l =
          let e = cf.below l in
          let yes : lt_z F least ≡ true = rw e l in
          let cap : cond (lt_z F least) F least ≡ f = rw yes e in
          fall-below l (lt_z r f) refl (subst (λ (z : ℤ). Capped z r R) cap cr)
      go false l =
          let no : lt_z F least ≡ false = lt_no F least (cf.above l) in
          let cap : cond (lt_z F least) F least ≡ least = rw no refl in
          fall-above l (lt_z r least) refl (subst (λ (z : ℤ). Capped z r R) cap cr)

-- ---- the search over the runs j 0, j 1, .. of one length: what is found among the first i
abbrev pub so_far : (ℕ → Join) → ℕ → Option Join
so_far j i = found_among (λ (r : Join). r.cost) (pos 0) j i

abbrev pub least_so_far : (ℕ → Join) → ℕ → ℤ
least_so_far j i = least_of (λ (r : Join). r.cost) (pos 0) (so_far j i)

-- what was found among the first i, and the cost that the next one has to be below
pub record Searched (j : ℕ → Join) (i : ℕ) (best : Found Join) (least : ℤ) : Type 0 where
  pub same : join_found best ≡ so_far j i
  pub least_is : least ≡ least_so_far j i
  pub small : mag least < 2 ^ 62

-- where none of the first i is below 0, nothing is found among them
pub searched-none : (j : ℕ → Join) (i : ℕ) → ((k : ℕ) → k < i → pos 0 ≤ℤ (j k).cost) → Searched j i None (pos 0)
searched-none j i above =
    let q = none_found (λ (r : Join). r.cost) (pos 0) j i above in
    record { same = rw q refl; least_is = rw q refl; small = omega arith }

module _ (j : ℕ → Join) (i : ℕ) (best : Found Join) (least : ℤ) (r : Join) (s : Searched j i best least) (k : RunBelow least (j i) r) where
  -- the test of the run that the code has is that of the definitions' run
  same-test : (t : Bool) → lt_z r.cost least ≡ t → lt_z (j i).cost least ≡ t
  same-test t e = go (lt_z (j i).cost least) refl
    where
      go : (u : Bool) → lt_z (j i).cost least ≡ u → lt_z (j i).cost least ≡ t
      go true q = let z : lt_z r.cost least ≡ true = rw (k.below q) q in q ∙ sym z ∙ e
      go false q = q ∙ sym (lt_no r.cost least (k.above q)) ∙ e

  -- S5: a run replaces the best one found so far only if its cost is lower, so the leftmost of equals stays
  pub searched-taken : lt_z r.cost least ≡ true → Searched j (i + 1) (Some r) r.cost
  unfolding found_among
  searched-taken e =
      let t = same-test true e in
      let q = k.below t in
      let taken : lt_z (j i).cost (least_so_far j i) ≡ true = rw s.least_is at t in
      rw add-one (record { same = rw (taken, q) refl; least_is = rw (taken, q) refl; small = k.small })

  pub searched-left : lt_z r.cost least ≡ false → Searched j (i + 1) best least
  unfolding found_among
  searched-left e =
      let left : lt_z (j i).cost (least_so_far j i) ≡ false = rw s.least_is at (same-test false e) in
      rw add-one (record { same = rw left s.same; least_is = rw left s.least_is; small = s.small })

-- of the runs that start at number 0, 1, .., last
pub searched-to : (e : Closeness) (read : Reader) (ss : List Segment) (last len i : ℕ) (best : Found Join) (least : ℤ)
    → Searched (λ k. join_of e read ss k len) i best least → i ≡ suc last → join_found best ≡ where_below (cheapest e read ss last len)
unfolding cheapest
searched-to e read ss last len i best least s q =
    s.same ∙ ap (so_far (λ k. join_of e read ss k len)) q ∙ found-lowest (λ (r : Join). r.cost) (pos 0) (λ k. join_of e read ss k len) last

-- ---- the search over the lengths n, n + 1, .., count, where `pick` gives the cheapest run of each
module _ (pick : ℕ → Join) (count : ℕ) where
  -- what the lengths from n on give
  abbrev pub from_length : ℕ → Option Join
  from_length n = first_that (λ (j : Join). lt_z j.cost (pos 0)) (map pick (numbers n (suc count - n)))

  one-length : (n : ℕ) → n ≤ count → from_length n ≡ cond (lt_z (pick n).cost (pos 0)) (some (pick n)) (from_length (n + 1))
  unfolding first_that numbers
  one-length n h =
      let q : suc count - n ≡ suc (suc count - (n + 1)) = omega arith in
      rw (q, add-one) refl

  -- o is what comes next: a join that the length n gives
  pub length_found : (n : ℕ) (o : Option Join) (b : Found Join) → o ≡ from_length n → n ≤ count → join_found b ≡ where_below (pick n) → is_some b ≡ true → join_found b ≡ o
  length_found n o None q h s t = absurd (false≢true t)
  length_found n o (Some r) q h s t = go (lt_z (pick n).cost (pos 0)) refl
    where
      go : (u : Bool) → lt_z (pick n).cost (pos 0) ≡ u → some r ≡ o
      go true k =
          let z : some r ≡ some (pick n) = rw k at s in
          z ∙ sym (q ∙ one-length n h ∙ rw k refl)
      go false k = let z : some r ≡ none = rw k at s in absurd (some-ne-none r z)

  -- where it gives none, what comes next is what the longer ones give
  pub length-passed : (n : ℕ) (o : Option Join) (b : Found Join) → o ≡ from_length n → n ≤ count → join_found b ≡ where_below (pick n) → is_some b ≡ false → o ≡ from_length (n + 1)
  length-passed n o (Some r) q h s t = absurd (false≢true (sym t))
  length-passed n o None q h s t = go (lt_z (pick n).cost (pos 0)) refl
    where
      go : (u : Bool) → lt_z (pick n).cost (pos 0) ≡ u → o ≡ from_length (n + 1)
      go true k = let z : none ≡ some (pick n) = rw k at s in absurd (none-ne-some (pick n) z)
      go false k = q ∙ one-length n h ∙ rw k refl

  pub no_length : (n : ℕ) (o : Option Join) → o ≡ from_length n → count < n → none ≡ o
  unfolding first_that numbers
  no_length n o q h = let z : suc count - n ≡ 0 = omega arith in sym (q ∙ rw z refl)

pub from-two : (e : Closeness) (read : Reader) (all : List Segment) (round : Bool) (count : ℕ)
    → next_among e read all round count ≡ from_length (λ n. cheapest e read all (last_start round count n) n) count 2
unfolding next_among
from-two e read all round count = let q : count - 1 ≡ suc count - 2 = omega arith in rw q refl

-- ---- the runs among the segments that two lists hold for a search, and the cheapest one of each length
abbrev pub run_from : (e : Closeness) (h s p : List ℕ) (round : Bool) (n len : ℕ) → ℕ → Join
run_from e h s p round n len k = join_of e (line_reader h) (segments_held s p 0 (held_count round n)) k len

abbrev pub cheapest_of : (e : Closeness) (h s p : List ℕ) (round : Bool) (n : ℕ) → ℕ → Join
cheapest_of e h s p round n len = cheapest e (line_reader h) (segments_held s p 0 (held_count round n)) (last_start round n len) len

-- a run of len of n segments ends among those held
pub run-held : (round : Bool) (n len i : ℕ) → 2 ≤ len → len ≤ n → i < suc (last_start round n len) → i + len ≤ held_count round n
run-held true n len i a b l = omega arith
run-held false n len i a b l = omega arith

-- those known not to be joinable start among them
pub known-held : (round : Bool) (n known len : ℕ) → known ≤ n → 2 ≤ len → len ≤ n → suc known - len ≤ suc (last_start round n len)
known-held true n known len a two b = omega arith
known-held false n known len a two b = omega arith

-- a run is the same, of however many segments beyond it
pub same-run : (e : Closeness) (h s p : List ℕ) (n i len : ℕ) → 1 ≤ len → i + len ≤ n
    → join_of e (line_reader h) (segments_held s p 0 (i + len)) i len ≡ join_of e (line_reader h) (segments_held s p 0 n) i len
same-run e h s p n i len one fit = run_is e h s p (i + len) i len one (omega arith) ∙ sym (run_is e h s p n i len one fit)
