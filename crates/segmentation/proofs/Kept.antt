-- What a join preserves: the cut of the line into modes, peaks that are not on inner separators, counts in each mode, and single humps. Assumes nothing.
use Prim.Native.Nat.{ℕ, zero, suc, ◌+◌, ◌-◌, ◌≤◌, ◌<◌}
use mathlib.Core.Path.{◌≡◌, refl, sym, ap, subst, ◌∙◌}
use mathlib.Core.Bool.{Bool, true, false, cond, ◌&&◌, and-false}
use mathlib.Core.List.{List, ◌∷◌}
use lib.Dec.{ltb, eqb}
use lib.ListN.{length, take, drop, length-append, length-drop, get_or-append}
use lib.Seq.{length-take-le, get_or-take, get_or-drop, get_or_at, get_or-append-add}
use lib.IntN.{ℤ, pos, negsuc}
use lib.Signed.{lt_z, le_z}
use native.Mathlib.Omega.{arith}
use borrow.Author.Tests.{lt-ltb, le-ltb, ltb-true, eqb-true, eqb-false}
use Rattle.lists.proofs.Cases.{by_cond, by_order, last_or}
use Rattle.lists.proofs.Parts.{total-take-mono}
use Rattle.pooling.specs.Blocks.{Direction, increasing, decreasing}
use Rattle.verdict.specs.Test.{Closeness, cost, step_against, rejected}
use Rattle.segmentation.specs.Segments.{Segment, segment_at}
use Rattle.segmentation.specs.Joining.{Reader, Join, rise_of, fall_of, last_in, joined, join, rise_cost, fall_cost, join_of}
use Rattle.segmentation.specs.Inside.{Inside, mode_count}
use Rattle.segmentation.specs.Finished.{Chain, Cut, SingleHump}

-- j is a run of two or more of the segments ss
pub record Run (ss : List Segment) (j : Join) : Type 0 where
  pub two : 2 ≤ j.len
  pub within : j.first + j.len ≤ length ss

abbrev nothing : Segment
nothing = record { start = 0; peak = 0; end = 0 }

-- ---- the members of a join: before the run, the joined one, and after the run
module _ (ss : List Segment) (j : Join) (v : Run ss j) where
  pub join-length : length (join ss j) + j.len ≡ suc (length ss)
  unfolding join
  join-length =
      omega (
        arith,
        length-take-le j.first ss (omega arith),
        length-drop (j.first + j.len) ss,
        length-append (take j.first ss) (joined ss j ∷ drop (j.first + j.len) ss),
      )

  before-length : length (take j.first ss) ≡ j.first
  before-length = length-take-le j.first ss (omega arith)

  pub join-before : (m : ℕ) → m < j.first → segment_at (join ss j) m ≡ segment_at ss m
  unfolding join
  join-before m l =
      get_or-append (take j.first ss) (joined ss j ∷ drop (j.first + j.len) ss) nothing m (omega (arith, before-length))
      ∙ get_or-take j.first ss m nothing l

  pub join-here : segment_at (join ss j) j.first ≡ joined ss j
  unfolding join
  join-here = get_or_at (take j.first ss) (joined ss j) (drop (j.first + j.len) ss) nothing j.first before-length

  pub join-after : (m : ℕ) → j.first < m → segment_at (join ss j) m ≡ segment_at ss (m + j.len - 1)
  unfolding join
  join-after m l =
      let k = m - suc j.first in
      let a : m ≡ length (take j.first ss) + suc k = omega (arith, before-length) in
      let b : j.first + j.len + k ≡ m + j.len - 1 = omega arith in
      ap (segment_at (join ss j)) a
      ∙ get_or-append-add (take j.first ss) (joined ss j ∷ drop (j.first + j.len) ss) (suc k) nothing
      ∙ get_or-drop (j.first + j.len) ss k nothing ∙ ap (segment_at ss) b

-- ---- each is a run of what was joined: member m has the start of number first_of j m, the end of number last_of j m, and the peak of one of them
unfoldable pub first_of : Join → ℕ → ℕ
first_of j m = cond (ltb j.first m) (m + j.len - 1) m

unfoldable pub last_of : Join → ℕ → ℕ
last_of j m = cond (ltb m j.first) m (m + j.len - 1)

abbrev pub run_of : Bool → Segment → Segment → Segment
run_of rise s t = record { start = s.start; peak = cond rise t.peak s.peak; end = t.end }

module _ (j : Join) (m : ℕ) where
  first_to : m ≤ j.first → first_of j m ≡ m
  unfolding first_of
  first_to l = rw (le-ltb j.first m l)

  first-after : j.first < m → first_of j m ≡ m + j.len - 1
  unfolding first_of
  first-after l = rw (lt-ltb j.first m l)

  last-before : m < j.first → last_of j m ≡ m
  unfolding last_of
  last-before l = rw (lt-ltb m j.first l)

  last-from : j.first ≤ m → last_of j m ≡ m + j.len - 1
  unfolding last_of
  last-from l = rw (le-ltb m j.first l)

run-of-one : (rise : Bool) (s : Segment) → s ≡ run_of rise s s
run-of-one true s = refl
run-of-one false s = refl

-- before, at or after the joined one
by_place {ℓ} : {P : Type ℓ} (j : Join) (m : ℕ) → (m < j.first → P) → (m ≡ j.first → P) → (j.first < m → P) → P
by_place j m f g h = by_order m j.first f (λ l. by_order j.first m h (λ k. g (omega arith)))

module _ (ss : List Segment) (j : Join) (v : Run ss j) (m : ℕ) where
  pub join-at : segment_at (join ss j) m ≡ run_of j.rise (segment_at ss (first_of j m)) (segment_at ss (last_of j m))
  unfolding joined
  join-at =
      by_place j m
      (λ l. rw (first_to j m (omega arith), last-before j m l) (join-before ss j v m l ∙ run-of-one j.rise (segment_at ss m)))
      (λ e. rw (first_to j m (omega arith), last-from j m (omega arith), e) (join-here ss j v))
      (λ l. rw (first-after j m l, last-from j m (omega arith)) (join-after ss j v m l ∙ run-of-one j.rise (segment_at ss (m + j.len - 1))))

  in_order : first_of j m ≤ last_of j m
  in_order =
      by_place j m
      (λ l. omega (arith, first_to j m (omega arith), last-before j m l))
      (λ l. omega (arith, first_to j m (omega arith), last-from j m (omega arith)))
      (λ l. omega (arith, first-after j m l, last-from j m (omega arith)))

  -- each starts where the one before it ends
  next-first : first_of j (suc m) ≡ suc (last_of j m)
  next-first =
      by_order m j.first
      (λ l. omega (arith, first_to j (suc m) (omega arith), last-before j m l))
      (λ l. omega (arith, first-after j (suc m) (omega arith), last-from j m l))

  last-in : m < length (join ss j) → last_of j m < length ss
  last-in k =
      by_order m j.first
      (λ l. omega (arith, last-before j m l, join-length ss j v))
      (λ l. omega (arith, last-from j m l, join-length ss j v))

  -- one more is left, so the run is not the last
  not_last : suc m < length (join ss j) → suc (last_of j m) < length ss
  not_last k =
      by_order m j.first
      (λ l. omega (arith, last-before j m l, join-length ss j v))
      (λ l. omega (arith, last-from j m l, join-length ss j v))

  not_first : 0 < m → 0 < first_of j m
  not_first k = by_order j.first m (λ l. omega (arith, first-after j m l)) (λ l. omega (arith, first_to j m l))

  by-peak : (P : ℕ → Type 0) → P (segment_at ss (last_of j m)).peak → P (segment_at ss (first_of j m)).peak → P (segment_at (join ss j) m).peak
  by-peak P f g =
      subst P (sym (ap (λ (s : Segment). s.peak) join-at))
      (by_cond P j.rise (segment_at ss (last_of j m)).peak (segment_at ss (first_of j m)).peak (λ e. f) (λ e. g))

-- ---- segments that follow one another: of a line, and round a ring
pub record Between (ss : List Segment) (i n : ℕ) : Type 0 where
  pub rise_from : (segment_at ss i).start ≤ (last_in ss i n).peak
  pub rise_to : (last_in ss i n).peak ≤ (last_in ss i n).end
  pub fall_from : (segment_at ss i).start ≤ (segment_at ss i).peak
  pub fall_to : (segment_at ss i).peak ≤ (last_in ss i n).end

module _ (ss : List Segment) (c : Chain ss) where
  pub chain-starts : (a b : ℕ) → a ≤ b → b < length ss → (segment_at ss a).start ≤ (segment_at ss b).start
  chain-starts a zero l k = let z : a ≡ 0 = omega arith in rw z (omega arith)
  chain-starts a (suc b) l k =
      last_or a b l
      (λ i. omega (arith, chain-starts a b i (omega arith), c.ascending b (omega arith), c.adjacent b k))
      (λ z. rw z (omega arith))

  pub chain-ends : (a b : ℕ) → a ≤ b → b < length ss → (segment_at ss a).end ≤ (segment_at ss b).end
  chain-ends a b l k =
      by_order a b
      (λ i. omega (arith, c.adjacent a (omega arith), chain-starts (suc a) b i k, c.ascending b k))
      (λ i. let z : a ≡ b = omega arith in rw z (omega arith))

  pub chain-grows : (m : ℕ) → m < length ss → m ≤ (segment_at ss m).start
  chain-grows zero l = omega arith
  chain-grows (suc m) l = omega (arith, chain-grows m (omega arith), c.ascending m (omega arith), c.adjacent m l)

  -- the two stretches of a run lie between its first separator and its last one
  pub between : (i n : ℕ) → 1 ≤ n → i + n ≤ length ss → Between ss i n
  between i n one fit =
      let first = c.peak_inside i (omega arith) in
      let last = c.peak_inside (i + n - 1) (omega arith) in
      record {
        rise_from = omega (arith, last, chain-starts i (i + n - 1) (omega arith) (omega arith));
        rise_to = last.1;
        fall_from = first.0;
        fall_to = omega (arith, first, chain-ends i (i + n - 1) (omega arith) (omega arith));
      }

  -- of two segments the later one starts at a later bin
  pub chain-rises : (a b : ℕ) → a < b → b < length ss → (segment_at ss a).start < (segment_at ss b).start
  chain-rises a b l k = omega (arith, c.ascending a (omega arith), c.adjacent a (omega arith), chain-starts (suc a) b l k)

-- ---- what a join keeps
-- s is the run of the segments ss from number first to number last
record RunOf (ss : List Segment) (s : Segment) (first last : ℕ) : Type 0 where
  order : first ≤ last
  within : last < length ss
  start : s.start ≡ (segment_at ss first).start
  end : s.end ≡ (segment_at ss last).end
  starts : (segment_at ss first).start ≤ (segment_at ss last).start
  ends : (segment_at ss first).end ≤ (segment_at ss last).end

-- the bin behind the last one of mode m
abbrev stop : List Segment → ℕ → ℕ
stop ss m = cond (eqb (suc m) (length ss)) (suc (segment_at ss m).end) (segment_at ss m).end

module _ (ss : List Segment) (j : Join) (c : Chain ss) (v : Run ss j) where
  chain_run : (m : ℕ) → m < length (join ss j) → RunOf ss (segment_at (join ss j) m) (first_of j m) (last_of j m)
  chain_run m l = record {
    order = in_order ss j v m;
    within = last-in ss j v m l;
    start = ap (λ (s : Segment). s.start) (join-at ss j v m);
    end = ap (λ (s : Segment). s.end) (join-at ss j v m);
    starts = chain-starts ss c (first_of j m) (last_of j m) (in_order ss j v m) (last-in ss j v m l);
    ends = chain-ends ss c (first_of j m) (last_of j m) (in_order ss j v m) (last-in ss j v m l);
  }

  pub join_first : (segment_at (join ss j) 0).start ≡ (segment_at ss 0).start
  join_first = (chain_run 0 (omega (arith, join-length ss j v))).start ∙ ap (λ (i : ℕ). (segment_at ss i).start) (first_to j 0 (omega arith))

  pub join_last : (segment_at (join ss j) (length (join ss j) - 1)).end ≡ (segment_at ss (length ss - 1)).end
  join_last =
      let n = length (join ss j) - 1 in
      let e : last_of j n ≡ length ss - 1 = last-from j n (omega (arith, join-length ss j v)) ∙ omega (arith, join-length ss j v) in
      (chain_run n (omega (arith, join-length ss j v))).end ∙ ap (λ (i : ℕ). (segment_at ss i).end) e

  pub join-chain : Chain (join ss j)
  join-chain = record {
    adjacent = λ m l.
        (chain_run m (omega arith)).end ∙ c.adjacent (last_of j m) (not_last ss j v m l)
        ∙ ap (λ (i : ℕ). (segment_at ss i).start) (sym (next-first ss j v m)) ∙ sym (chain_run (suc m) l).start;
    ascending = λ m l. let r = chain_run m l in omega (arith, c.ascending (last_of j m) r.within);
    peak_inside = λ m l.
        let r = chain_run m l in
        let a = c.peak_inside (first_of j m) (omega arith) in
        let b = c.peak_inside (last_of j m) r.within in
        by-peak ss j v m (λ (p : ℕ). ((segment_at (join ss j) m).start ≤ p) × (p ≤ (segment_at (join ss j) m).end))
        (omega arith, omega arith) (omega arith, omega arith);
  }

  -- each mode starts where one of them started, and ends where that one ended or later
  pub join-starts : (m : ℕ) → m < length (join ss j)
      → (k : ℕ) × (k < length ss) × ((segment_at (join ss j) m).start ≡ (segment_at ss k).start) × ((segment_at ss k).end ≤ (segment_at (join ss j) m).end)
  join-starts m l = let r = chain_run m l in (first_of j m, omega arith, r.start, omega arith)

module _ (bins : ℕ) (ss : List Segment) (j : Join) (c : Cut bins ss) (v : Run ss j) where
  run-of : (m : ℕ) → m < length (join ss j) → RunOf ss (segment_at (join ss j) m) (first_of j m) (last_of j m)
  run-of = chain_run ss j c.chain v

  pub join-cut : Cut bins (join ss j)
  join-cut = record {
    non_empty = omega (arith, join-length ss j v);
    from_first_bin = join_first ss j c.chain v ∙ c.from_first_bin;
    to_last_bin = ap suc (join_last ss j c.chain v) ∙ c.to_last_bin;
    chain = join-chain ss j c.chain v;
  }

  pub join-inside : Inside ss → Inside (join ss j)
  join-inside inside = record {
    after_start = λ m k l.
        let r = run-of m l in
        let i = not_first ss j v m k in
        by-peak ss j v m (λ (p : ℕ). (segment_at (join ss j) m).start < p)
        (omega (arith, inside.after_start (last_of j m) (omega arith) r.within))
        (omega (arith, inside.after_start (first_of j m) i (omega arith)));
    before_end = λ m l.
        let r = run-of m (omega arith) in
        let i = not_last ss j v m l in
        by-peak ss j v m (λ (p : ℕ). p < (segment_at (join ss j) m).end)
        (omega (arith, inside.before_end (last_of j m) i))
        (omega (arith, inside.before_end (first_of j m) (omega arith)));
  }

  -- the bins of a joined mode contain those of its first
  stops-later : (m : ℕ) → m < length (join ss j) → stop ss (first_of j m) ≤ stop (join ss j) m
  stops-later m l =
      let r = run-of m l in
      let f = first_of j m in
      let e = (segment_at ss f).end in
      let end = (segment_at (join ss j) m).end in
      by_cond (λ (z : ℕ). stop ss f ≤ z) (eqb (suc m) (length (join ss j))) (suc end) end
      (λ t. by_cond (λ (z : ℕ). z ≤ suc end) (eqb (suc f) (length ss)) (suc e) e (λ u. omega arith) (λ u. omega arith))
      (λ t. by_cond (λ (z : ℕ). z ≤ end) (eqb (suc f) (length ss)) (suc e) e
      (λ u. by_order (suc m) (length (join ss j))
      (λ k. absurd (omega (arith, not_last ss j v m k, eqb-true (suc f) (length ss) u)))
      (λ k. absurd (eqb-false (suc m) (length (join ss j)) t (omega arith))))
      (λ u. omega arith))

  pub join-counts : (h : List ℕ) → ((m : ℕ) → m < length ss → 0 < mode_count h ss m) → (m : ℕ) → m < length (join ss j) → 0 < mode_count h (join ss j) m
  unfolding mode_count
  join-counts h counts m l =
      let r = run-of m l in
      let f = first_of j m in
      let s = (segment_at ss f).start in
      let k : stop ss f - s ≤ stop (join ss j) m - s = omega (arith, stops-later m l) in
      let t = total-take-mono (stop ss f - s) (stop (join ss j) m - s) (drop s h) k in
      rw r.start (omega (arith, counts f (omega arith), t))

-- ---- single humps: of a joined mode one side had a cost below 0, the other is that of a mode that was joined
below-accepts : (e : Closeness) (w : Direction) (h : List ℕ) → lt_z (cost e w h) (pos 0) ≡ true → rejected e w h ≡ false
unfolding rejected
below-accepts e w h l = go (cost e w h) l
  where
    go : (z : ℤ) → lt_z z (pos 0) ≡ true → (step_against w h && le_z (pos 0) z) ≡ false
    go (pos a) t = absurd (omega (arith, ltb-true a 0 t))
    go (negsuc a) t = and-false (step_against w h)

module _ (e : Closeness) (read : Reader) where
  abbrev pub Hump : Segment → Type 0
  Hump s = (rejected e increasing (read s.start s.peak) ≡ false) × (rejected e decreasing (read s.peak s.end) ≡ false)

  pub hump-at : (ss : List Segment) (m : ℕ) → SingleHump e read ss m → Hump (segment_at ss m)
  unfolding rise_of fall_of
  hump-at ss m h =
      let z : m + 1 - 1 ≡ m = omega arith in (
        subst (λ (k : ℕ). rejected e increasing (read (segment_at ss m).start (segment_at ss k).peak) ≡ false) z h.rise,
        subst (λ (k : ℕ). rejected e decreasing (read (segment_at ss m).peak (segment_at ss k).end) ≡ false) z h.fall,
      )

  pub at-hump : (ss : List Segment) (m : ℕ) (s : Segment) → segment_at ss m ≡ s → Hump s → SingleHump e read ss m
  unfolding rise_of fall_of
  at-hump ss m s q h = let z : m + 1 - 1 ≡ m = omega arith in record { rise = rw (z, q) h.0; fall = rw (z, q) h.1 }

  module _ (ss : List Segment) (i n : ℕ) (below : lt_z (join_of e read ss i n).cost (pos 0) ≡ true) where
    joined-hump : Hump (segment_at ss i) → Hump (last_in ss i n) → Hump (joined ss (join_of e read ss i n))
    unfolding joined join_of rise_cost fall_cost rise_of fall_of
    joined-hump first last = go (lt_z (rise_cost e read ss i n) (fall_cost e read ss i n)) below
      where
        go : (rise : Bool) → lt_z (cond rise (rise_cost e read ss i n) (fall_cost e read ss i n)) (pos 0) ≡ true
            → Hump (run_of rise (segment_at ss i) (last_in ss i n))
        go true t = (below-accepts e increasing (rise_of read ss i n) t, last.1)
        go false t = (first.0, below-accepts e decreasing (fall_of read ss i n) t)

    pub join-humps : Run ss (join_of e read ss i n) → ((m : ℕ) → m < length ss → SingleHump e read ss m)
        → (m : ℕ) → m < length (join ss (join_of e read ss i n)) → SingleHump e read (join ss (join_of e read ss i n)) m
    unfolding join_of
    join-humps v humps m k =
        let j = join_of e read ss i n in
        let a = v.two in
        let b = v.within in
        let was : (p : ℕ) → p < length ss → Hump (segment_at ss p) = λ p q. hump-at ss p (humps p q) in
        by_place j m
        (λ l. at-hump (join ss j) m (segment_at ss m) (join-before ss j v m l) (was m (omega arith)))
        (λ z. rw z
        (at-hump (join ss j) i (joined ss j) (join-here ss j v) (joined-hump (was i (omega arith)) (was (i + n - 1) (omega arith)))))
        (λ l. at-hump (join ss j) m (segment_at ss (m + n - 1)) (join-after ss j v m l) (was (m + n - 1) (omega (arith, join-length ss j v))))
