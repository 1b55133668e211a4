-- The next join, what holds after all joins, and that nothing is left to join, along a line and round a ring alike. Assumes nothing.
use Prim.Native.Nat.{ℕ, zero, suc, ◌+◌, ◌-◌, ◌≤◌, ◌<◌}
use mathlib.Core.Path.{◌≡◌, refl, sym, ap, subst, ◌∙◌}
use mathlib.Core.Bool.{Bool, true, false}
use mathlib.Core.List.{List, [], ◌∷◌}
use mathlib.Core.Option.{Option, none, some}
use lib.ListN.{length}
use lib.IntN.{ℤ, pos}
use lib.Signed.{lt_z, ◌≤ℤ◌, ≤ℤ_refl}
use native.Mathlib.Omega.{arith}
use Rattle.lists.specs.Lists.{numbers, first_lowest, first_that, maybe}
use Rattle.lists.proofs.Cases.{by_cond}
use Rattle.lists.proofs.Signed.{le-trans-ℤ, lt-le-ℤ, nlt-le-ℤ}
use Rattle.lists.proofs.Lowest.{lowest-in, lowest-le}
use Rattle.lists.proofs.Found.{found_in, found-passes, none_passes}
use Rattle.verdict.specs.Test.{Closeness}
use Rattle.segmentation.specs.Segments.{Segment, segment_at, first_segments}
use Rattle.segmentation.specs.Joining.{Reader, line_reader, last_in, Join, rise_of, fall_of, rise_cost, fall_cost, join_of, last_start, cheapest, next_among, next_join, Joins, join_all, line_joins, line_modes}
use Rattle.segmentation.proofs.Kept.{Run, join-length}

-- ---- the join that comes next: a run of two or more of the segments, with a cost below 0
pub record Chosen (e : Closeness) (read : Reader) (ss : List Segment) (round : Bool) (count : ℕ) (j : Join) : Type 0 where
  pub first : ℕ
  pub len : ℕ
  pub same : join_of e read ss first len ≡ j
  pub two : 2 ≤ len
  pub all : len ≤ count
  pub starts : first ≤ last_start round count len

module _ (e : Closeness) (read : Reader) (ss : List Segment) (round : Bool) (count : ℕ) where
  abbrev pick : ℕ → Join
  pick n = cheapest e read ss (last_start round count n) n

  module _ (j : Join) (q : next_among e read ss round count ≡ some j) where
    pub chosen : Chosen e read ss round count j
    unfolding next_among cheapest
    chosen =
        let r = found_in pick 2 (count - 1) _ j q in
        let n = r.0 in
        let a = r.1 in
        let b = r.2 in
        let f : ℕ → ℤ = λ i. (join_of e read ss i n).cost in
        record { first = first_lowest (last_start round count n) f; len = n; same = r.3; two = a; all = omega arith; starts = lowest-in (last_start round count n) f }

    pub chosen-below : lt_z j.cost (pos 0) ≡ true
    unfolding next_among
    chosen-below = found-passes (λ (k : Join). lt_z k.cost (pos 0)) _ j q

  -- ---- where no join comes next, no run can be joined: the cost that counts is at most each of the two
  module _ (i n : ℕ) where
    at-most-rise : (join_of e read ss i n).cost ≤ℤ rise_cost e read ss i n
    unfolding join_of
    at-most-rise =
        let r = rise_cost e read ss i n in
        let f = fall_cost e read ss i n in
        by_cond (λ c. c ≤ℤ r) (lt_z r f) r f (λ t. ≤ℤ_refl r) (λ t. nlt-le-ℤ r f t)

    at-most-fall : (join_of e read ss i n).cost ≤ℤ fall_cost e read ss i n
    unfolding join_of
    at-most-fall =
        let r = rise_cost e read ss i n in
        let f = fall_cost e read ss i n in
        by_cond (λ c. c ≤ℤ f) (lt_z r f) r f (λ t. lt-le-ℤ r f t) (λ t. ≤ℤ_refl f)

    pub unjoinable : next_among e read ss round count ≡ none → 2 ≤ n → n ≤ count → i ≤ last_start round count n → pos 0 ≤ℤ (join_of e read ss i n).cost
    unfolding next_among cheapest
    unjoinable q a b l =
        let t = none_passes pick 2 (count - 1) _ q n a (omega arith) in
        let last = last_start round count n in
        let f : ℕ → ℤ = λ k. (join_of e read ss k n).cost in
        le-trans-ℤ (pos 0) (f (first_lowest last f)) (f i) (nlt-le-ℤ (f (first_lowest last f)) (pos 0) t) (lowest-le last f i l)

    pub none-joinable : next_among e read ss round count ≡ none → 2 ≤ n → n ≤ count → i ≤ last_start round count n
        → (pos 0 ≤ℤ rise_cost e read ss i n) × (pos 0 ≤ℤ fall_cost e read ss i n)
    none-joinable q a b l =
        let c = unjoinable q a b l in (
          le-trans-ℤ (pos 0) (join_of e read ss i n).cost (rise_cost e read ss i n) c at-most-rise,
          le-trans-ℤ (pos 0) (join_of e read ss i n).cost (fall_cost e read ss i n) c at-most-fall,
        )

-- the cost of a run goes by its first segment and its last, wherever they stand
pub run-elsewhere : (e : Closeness) (read : Reader) (ss ts : List Segment) (i k n : ℕ) → segment_at ss i ≡ segment_at ts k → last_in ss i n ≡ last_in ts k n
    → (join_of e read ss i n).cost ≡ (join_of e read ts k n).cost
unfolding join_of rise_cost fall_cost rise_of fall_of
run-elsewhere e read ss ts i k n first last = rw (first, last) refl

-- a single segment has nothing to join
pub one-joins-none : (e : Closeness) (read : Reader) (ss : List Segment) (round : Bool) (count : ℕ) → count ≤ 1 → next_among e read ss round count ≡ none
unfolding next_among numbers first_that
one-joins-none e read ss round count l = let z : count - 1 ≡ 0 = omega arith in rw z refl

-- ---- a way of joining: no segments have nothing to join, and each join leaves fewer
pub record Shortens (w : Joins) : Type 0 where
  pub empty : w.next [] ≡ none
  pub fewer : (ss : List Segment) (j : Join) → w.next ss ≡ some j → length (w.after ss j) < length ss

module _ (w : Joins) where
  -- what every next join keeps holds when none is left
  pub join-all-keeps : (P : List Segment → Type 0) → ((ss : List Segment) (j : Join) → w.next ss ≡ some j → P ss → P (w.after ss j))
      → (k : ℕ) (ss : List Segment) → P ss → P (join_all k w ss)
  unfolding join_all
  join-all-keeps P keeps zero ss p = p
  join-all-keeps P keeps (suc k) ss p = go (w.next ss) refl (join-all-keeps P keeps k)
    where
      go : (o : Option Join) → w.next ss ≡ o → ((ts : List Segment) → P ts → P (join_all k w ts)) → P (maybe ss (λ j. join_all k w (w.after ss j)) o)
      go none q ih = p
      go (some j) q ih = ih (w.after ss j) (keeps ss j q p)

  pub joins-none : (k : ℕ) (ss : List Segment) → w.next ss ≡ none → join_all k w ss ≡ ss
  unfolding join_all
  joins-none zero ss q = refl
  joins-none (suc k) ss q = ap (maybe ss (λ j. join_all k w (w.after ss j))) q

  pub joins-more : (k : ℕ) (ss : List Segment) (j : Join) → w.next ss ≡ some j → join_all (suc k) w ss ≡ join_all k w (w.after ss j)
  unfolding join_all
  joins-more k ss j q = ap (maybe ss (λ i. join_all k w (w.after ss i))) q

  module _ (s : Shortens w) where
    -- as many steps as segments are enough: none is left, and with more steps the result is the same
    pub settled : (fuel : ℕ) (ss : List Segment) → length ss ≤ fuel → w.next (join_all fuel w ss) ≡ none
    unfolding join_all
    settled zero [] l = s.empty
    settled zero (x ∷ ss) l = absurd (omega arith)
    settled (suc fuel) ss l = go (w.next ss) refl (settled fuel)
      where
        go : (o : Option Join) → w.next ss ≡ o → ((ts : List Segment) → length ts ≤ fuel → w.next (join_all fuel w ts) ≡ none)
            → w.next (maybe ss (λ j. join_all fuel w (w.after ss j)) o) ≡ none
        go none q ih = q
        go (some j) q ih = let d = s.fewer ss j q in ih (w.after ss j) (omega arith)

    same-result : (k n : ℕ) (ss : List Segment) → length ss ≤ k → length ss ≤ n → join_all k w ss ≡ join_all n w ss
    unfolding join_all
    same-result zero n [] a b = sym (joins-none n [] s.empty)
    same-result (suc k) zero [] a b = joins-none (suc k) [] s.empty
    same-result zero n (x ∷ ss) a b = absurd (omega arith)
    same-result (suc k) zero (x ∷ ss) a b = absurd (omega arith)
    same-result (suc k) (suc n) ss a b = go (w.next ss) refl (same-result k n)
      where
        go : (o : Option Join) → w.next ss ≡ o → ((ts : List Segment) → length ts ≤ k → length ts ≤ n → join_all k w ts ≡ join_all n w ts)
            → maybe ss (λ j. join_all k w (w.after ss j)) o ≡ maybe ss (λ j. join_all n w (w.after ss j)) o
        go none q ih = refl
        go (some j) q ih = let d = s.fewer ss j q in ih (w.after ss j) (omega arith) (omega arith)

    -- one join, with as many steps as segments before it and after it
    pub joins-step : (ss : List Segment) (j : Join) → w.next ss ≡ some j → join_all (length (w.after ss j)) w (w.after ss j) ≡ join_all (length ss) w ss
    joins-step ss j q =
        let d = s.fewer ss j q in
        let m : length ss ≡ suc (length ss - 1) = omega arith in
        same-result (length (w.after ss j)) (length ss - 1) (w.after ss j) (omega arith) (omega arith)
        ∙ sym (ap (λ (k : ℕ). join_all k w ss) m ∙ joins-more (length ss - 1) ss j q)

    -- one step, which makes the next join if there is one: if it leaves as many segments, nothing is left to do
    pub record Stepped (ss ts : List Segment) : Type 0 where
      pub fewer : length ts ≤ length ss
      pub same : join_all (length ts) w ts ≡ join_all (length ss) w ss
      pub done : length ts ≡ length ss → join_all (length ts) w ts ≡ ts

    pub stepped : (ss : List Segment) → Stepped ss (join_all 1 w ss)
    unfolding join_all
    stepped ss = go (w.next ss) refl
      where
        go : (o : Option Join) → w.next ss ≡ o → Stepped ss (maybe ss (λ j. w.after ss j) o)
        go none q = record { fewer = omega arith; same = refl; done = λ l. joins-none (length ss) ss q }
        go (some j) q =
            let d = s.fewer ss j q in
            record { fewer = omega arith; same = joins-step ss j q; done = λ l. absurd (omega arith) }

-- ---- a line
module _ (e : Closeness) (read : Reader) (ss : List Segment) (j : Join) (q : next_join e read ss ≡ some j) where
  pub next_of : Chosen e read ss false (length ss) j
  unfolding next_join
  next_of = chosen e read ss false (length ss) j q

  pub next-run : Run ss j
  unfolding join_of
  next-run =
      let r = next_of in
      let l = r.starts in
      let a = r.all in
      subst (λ (k : Join). Run ss k) r.same (record { two = r.two; within = omega arith })

  pub next-below : lt_z j.cost (pos 0) ≡ true
  unfolding next_join
  next-below = chosen-below e read ss false (length ss) j q

pub line-shortens : (e : Closeness) (read : Reader) → Shortens (line_joins e read)
unfolding next_join
line-shortens e read = record {
  empty = one-joins-none e read [] false 0 (omega arith);
  fewer = λ ss j q. let r = next-run e read ss j q in omega (arith, join-length ss j r, r.two);
}

-- a line of one segment keeps it
pub one_kept : (e : Closeness) (h : List ℕ) → length (first_segments h) ≤ 1 → line_modes e h ≡ first_segments h
unfolding line_modes next_join
one_kept e h l =
    let ss = first_segments h in
    joins-none (line_joins e (line_reader h)) (length ss) ss (one-joins-none e (line_reader h) ss false (length ss) l)

-- nothing comes next when a line is finished
pub line-settled : (e : Closeness) (h : List ℕ) → next_among e (line_reader h) (line_modes e h) false (length (line_modes e h)) ≡ none
unfolding line_modes next_join
line-settled e h = settled (line_joins e (line_reader h)) (line-shortens e (line_reader h)) (length (first_segments h)) (first_segments h) (omega arith)

-- Finished.none_joinable
pub line-none-joinable : (e : Closeness) (h : List ℕ) (i n : ℕ) → 2 ≤ n → i + n ≤ length (line_modes e h)
    → (pos 0 ≤ℤ rise_cost e (line_reader h) (line_modes e h) i n) × (pos 0 ≤ℤ fall_cost e (line_reader h) (line_modes e h) i n)
line-none-joinable e h i n a b =
    let ss = line_modes e h in
    none-joinable e (line_reader h) ss false (length ss) i n (line-settled e h) a (omega arith) (omega arith)
