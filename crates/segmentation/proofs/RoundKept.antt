-- What a join anywhere round a ring keeps: the cut of the ring into modes, single humps, and that no run without the last mode is joinable; and it leaves fewer modes. Assumes nothing.
use Prim.Native.Nat.{ℕ, suc, ◌+◌, ◌*◌, ◌-◌, ◌≤◌, ◌<◌}
use mathlib.Core.Path.{◌≡◌, refl, sym, ap, subst, ◌∙◌}
use mathlib.Core.Bool.{true, false≢true}
use mathlib.Core.List.{List, []}
use mathlib.Core.Option.{Option, none, some}
use native.Mathlib.Omega.{arith}
use lib.ListN.{length}
use lib.IntN.{ℤ, pos}
use lib.Signed.{lt_z, ◌≤ℤ◌}
use Rattle.lists.specs.Lists.{total, maybe}
use Rattle.lists.proofs.Cases.{by_order}
use Rattle.lists.proofs.Signed.{lt_no}
use Rattle.verdict.specs.Test.{Closeness}
use Rattle.segmentation.specs.Segments.{Segment, segment_at, bin_at}
use Rattle.segmentation.specs.Joining.{Reader, Join, rise_of, fall_of, joined, join, rise_cost, fall_cost, join_of, join_all}
use Rattle.segmentation.specs.Around.{later, twice, next_round, starting_at, join_twice, join_round, ring_joins}
use Rattle.segmentation.specs.Finished.{SingleHump, RingCut}
use Rattle.segmentation.specs.Runs.{OnRing, NoneAmong}
use Rattle.segmentation.proofs.Kept.{Run, chain-ends, join-length, join-before, join-here, join-after, join_first, join_last, join-chain, Hump, hump-at, at-hump, join-humps}
use Rattle.segmentation.proofs.Settled.{Chosen, chosen, chosen-below, run-elsewhere, one-joins-none, Shortens}
use Rattle.segmentation.proofs.Turned.{passed, turn_from, twice-first, turn-length, turn_at, turn-chain, turn-first, turn_last, in-turn, ends-in-turn}

-- j is a run of two or more of the modes ss, from any of them on
pub record RoundRun (ss : List Segment) (j : Join) : Type 0 where
  pub two : 2 ≤ j.len
  pub all : j.len ≤ length ss
  pub starts : j.first < length ss

-- ---- the run in the turn in which it is joined
module _ (bins : ℕ) (ss : List Segment) (j : Join) (v : RoundRun ss j) where
  past-in : passed ss j < length ss
  past-in = omega (arith, v.all, v.starts, v.two)

  past_first : passed ss j ≤ j.first
  past_first = omega (arith, v.all)

  long : length (turn_from (passed ss j) bins ss) ≡ length ss
  long = turn-length bins ss (passed ss j) (omega (arith, past-in))

  moved-run : Run (turn_from (passed ss j) bins ss) (starting_at (j.first - passed ss j) j)
  moved-run = record { two = v.two; within = omega (arith, v.all, v.starts, long) }

  pub round-length : length (join_round bins ss j) + j.len ≡ suc (length ss)
  unfolding join_round join_twice turn_from
  round-length = omega (arith, join-length _ _ moved-run, long)

  -- the modes before the run
  pub before-run : (m : ℕ) → m < j.first - passed ss j → segment_at (join_round bins ss j) m ≡ segment_at ss (passed ss j + m)
  unfolding join_round join_twice turn_from
  before-run m l =
      let here : passed ss j + m < length ss = omega (arith, v.starts, past_first) in
      join-before (turn_from (passed ss j) bins ss) (starting_at (j.first - passed ss j) j) moved-run m l
      ∙ turn_at bins ss (passed ss j) m (omega arith) ∙ twice-first bins ss (passed ss j + m) here

-- ---- the join that comes next
module _ (e : Closeness) (read : Reader) (bins : ℕ) (ss : List Segment) (j : Join) (q : next_round e read bins ss ≡ some j) where
  pub round-of : Chosen e read (twice bins ss) true (length ss) j
  unfolding next_round
  round-of = chosen e read (twice bins ss) true (length ss) j q

  pub round-run : RoundRun ss j
  unfolding join_of
  round-run =
      let r = round-of in
      let l = r.starts in
      let a = r.all in
      let b = r.two in
      subst (RoundRun ss) r.same (record { two = b; all = a; starts = omega arith })

  pub round-below : lt_z j.cost (pos 0) ≡ true
  unfolding next_round
  round-below = chosen-below e read (twice bins ss) true (length ss) j q

pub ring-shortens : (e : Closeness) (read : Reader) (bins : ℕ) → Shortens (ring_joins e read bins)
unfolding next_round
ring-shortens e read bins = record {
  empty = one-joins-none e read (twice bins []) true 0 (omega arith);
  fewer = λ ss j q. let r = round-run e read bins ss j q in omega (arith, round-length bins ss j r, r.two);
}

-- ---- the ring stays cut into modes
module _ {bins : ℕ} {ss : List Segment} (c : RingCut bins ss) (j : Join) (v : RoundRun ss j) where
  abbrev past : ℕ
  past = passed ss j

  abbrev turn : List Segment
  turn = turn_from (passed ss j) bins ss

  abbrev moved : Join
  moved = starting_at (j.first - passed ss j) j

  abbrev run : Run turn moved
  run = moved-run bins ss j v

  -- each mode left has the start of a mode, and ends where that one ended or later
  pub round-arcs : (m : ℕ) → m < length (join_round bins ss j)
      → (k : ℕ) × (k < length ss) × ((segment_at (join_round bins ss j) m).start ≡ (segment_at ss k).start) × ((segment_at ss k).end ≤ (segment_at (join_round bins ss j) m).end)
  unfolding join_round join_twice turn_from joined
  round-arcs m l =
      let f = j.first - passed ss j in
      let g = past_first bins ss j v in
      let e : past + f ≡ j.first = omega arith in
      let s = v.starts in
      by_order m f
      (λ a. let q = before-run bins ss j v m a in (past + m, omega arith, ap (λ (x : Segment). x.start) q, omega (arith, ap (λ (x : Segment). x.end) q)))
      (λ a. by_order f m
      (λ b.
      let n = m + j.len - 1 in
      let k : past + n < length ss = omega (arith, join-length turn moved run, long bins ss j v, v.two, v.all) in
      let q = join-after turn moved run m b ∙ same n k in
      (past + n, k, ap (λ (x : Segment). x.start) q, omega (arith, ap (λ (x : Segment). x.end) q)))
      (λ b.
      let z : m ≡ f = omega arith in
      let q = ap (segment_at (join turn moved)) z ∙ join-here turn moved run in
      let w = same f (omega arith) in
      let up = chain-ends turn (turn-chain c past (past-in bins ss j v)) f (f + j.len - 1) (omega (arith, v.two)) (omega (arith, run.within, v.two)) in
      (past + f, omega arith, ap (λ (x : Segment). x.start) q ∙ ap (λ (x : Segment). x.start) w, omega (arith, up, ap (λ (x : Segment). x.end) q, ap (λ (x : Segment). x.end) w))))
    where
      same : (k : ℕ) → past + k < length ss → segment_at turn k ≡ segment_at ss (past + k)
      same k i = turn_at bins ss past k (omega arith) ∙ twice-first bins ss (past + k) i

  pub round-starts : (P : ℕ → Type 0) → ((k : ℕ) → k < length ss → P (segment_at ss k).start)
      → (m : ℕ) → m < length (join_round bins ss j) → P (segment_at (join_round bins ss j) m).start
  round-starts P was m l = let r = round-arcs m l in subst P (sym r.2) (was r.0 r.1)

  pub round-cut : RingCut bins (join_round bins ss j)
  unfolding join_round join_twice turn_from joined
  round-cut =
      let d = turn-chain c past (past-in bins ss j v) in
      record {
        non_empty = omega (arith, v.all, join-length turn moved run, long bins ss j v);
        first_turn = round-starts (λ (s : ℕ). s < bins) c.first_turn;
        once_round =
            let n : length turn - 1 ≡ length ss - 1 = ap (λ (z : ℕ). z - 1) (long bins ss j v) in
            join_last turn moved d run ∙ ap (λ (m : ℕ). (segment_at turn m).end) n ∙ turn_last c past (past-in bins ss j v)
            ∙ ap (λ (m : ℕ). m + bins) (sym (turn-first c past (past-in bins ss j v)) ∙ sym (join_first turn moved d run));
        chain = join-chain turn moved d run;
      }

-- ---- and its separators stay low
pub on-ring-kept : (e : Closeness) (read : Reader) (bins : ℕ) (turn : List ℕ) (ss : List Segment) (j : Join) → next_round e read bins ss ≡ some j
    → OnRing bins turn ss → OnRing bins turn (join_round bins ss j)
on-ring-kept e read bins turn ss j q o =
    let v = round-run e read bins ss j q in
    record { cut = round-cut o.cut j v; low = round-starts o.cut j v (λ (s : ℕ). 2 * bin_at turn s ≤ total turn) o.low }

-- ---- single humps
module _ (e : Closeness) (read : Reader) where
  module _ (bins : ℕ) (round : (i j : ℕ) → i ≤ j → j < bins → read (i + bins) (j + bins) ≡ read i j) where
    -- a run in one turn of the modes is the run it is in the modes twice over
    pub turn-run : (ss : List Segment) (k i n : ℕ) → 1 ≤ n → i + n ≤ length ss
        → join_of e read (turn_from k bins ss) i n ≡ starting_at i (join_of e read (twice bins ss) (k + i) n)
    unfolding join_of rise_cost fall_cost rise_of fall_of
    turn-run ss k i n a b =
        let z : k + (i + n - 1) ≡ k + i + n - 1 = omega arith in
        rw (turn_at bins ss k i (omega arith), turn_at bins ss k (i + n - 1) (omega arith), z) refl

    module _ (ss : List Segment) (c : RingCut bins ss) (humps : (m : ℕ) → m < length ss → SingleHump e read ss m) where
      later-hump : (m k : ℕ) → m < k → k < length ss → Hump e read (later bins (segment_at ss m))
      later-hump m k l i =
          let h = hump-at e read ss m (humps m (omega arith)) in
          let p = c.chain.peak_inside m (omega arith) in
          let t = ends-in-turn c m k l i in
          let s = segment_at ss m in
          (rw (round s.start s.peak p.0 (omega arith)) h.0, rw (round s.peak s.end p.1 t) h.1)

      turn-humps : (k : ℕ) → k < length ss → (m : ℕ) → m < length ss → SingleHump e read (turn_from k bins ss) m
      turn-humps k i m l =
          at-hump e read (turn_from k bins ss) m (segment_at (turn_from k bins ss) m) refl
          (in-turn c k i (Hump e read) (λ n a. hump-at e read ss n (humps n a)) (λ n a. later-hump n k a i) m l)

      pub round-humps : (i n : ℕ) (v : RoundRun ss (join_of e read (twice bins ss) i n)) → lt_z (join_of e read (twice bins ss) i n).cost (pos 0) ≡ true
          → (m : ℕ) → m < length (join_round bins ss (join_of e read (twice bins ss) i n)) → SingleHump e read (join_round bins ss (join_of e read (twice bins ss) i n)) m
      unfolding join_round join_twice turn_from join_of
      round-humps i n v below =
          let j = join_of e read (twice bins ss) i n in
          let k = passed ss j in
          let two = v.two in
          let all = v.all in
          let here = v.starts in
          let z : k + (i - k) ≡ i = omega arith in
          let q : join_of e read (turn_from k bins ss) (i - k) n ≡ starting_at (i - k) j =
          turn-run ss k (i - k) n (omega arith) (omega arith) ∙ ap (λ (x : ℕ). starting_at (i - k) (join_of e read (twice bins ss) x n)) z in
          let same_length = turn-length bins ss k (omega arith) in
          subst (λ (x : Join). (m : ℕ) → m < length (join (turn_from k bins ss) x) → SingleHump e read (join (turn_from k bins ss) x) m) q
          (join-humps e read (turn_from k bins ss) (i - k) n
          (subst (λ (x : Join). lt_z x.cost (pos 0) ≡ true) (sym q) below)
          (subst (Run (turn_from k bins ss)) (sym q) (moved-run bins ss j v))
          (λ m l. turn-humps k (omega arith) m (omega arith)))

-- ---- each join has the last mode in it, if no run without it is joinable: then the modes before it are as they were, and no run of them is joinable
module _ (e : Closeness) (read : Reader) (bins : ℕ) where
  -- the runs that do not go past the last mode are the same in the modes twice over
  pub none-twice : (ss : List Segment) (known : ℕ) → known ≤ length ss → NoneAmong e read ss known → NoneAmong e read (twice bins ss) known
  none-twice ss known l above n two i k =
      subst (λ (z : ℤ). pos 0 ≤ℤ z)
      (sym (run-elsewhere e read (twice bins ss) ss i i n (twice-first bins ss i (omega arith)) (twice-first bins ss (i + n - 1) (omega arith))))
      (above n two i k)

  module _ (ss : List Segment) (known : ℕ) (few : known ≤ length ss) (most : length ss ≤ suc known) (above : NoneAmong e read ss known) where
    last-in : (i n : ℕ) → 2 ≤ n → lt_z (join_of e read (twice bins ss) i n).cost (pos 0) ≡ true → length ss ≤ i + n
    last-in i n two below =
        by_order (i + n) (length ss)
        (λ l. absurd (false≢true (sym (lt_no (join_of e read (twice bins ss) i n).cost (pos 0) (none-twice ss known few above n two i (omega arith))) ∙ below)))
        (λ l. l)

    none-moved : (i n : ℕ) → lt_z (join_of e read (twice bins ss) i n).cost (pos 0) ≡ true → RoundRun ss (join_of e read (twice bins ss) i n)
        → NoneAmong e read (join_round bins ss (join_of e read (twice bins ss) i n)) (length (join_round bins ss (join_of e read (twice bins ss) i n)) - 1)
    unfolding join_of
    none-moved i n below v m two a l =
        let j = join_of e read (twice bins ss) i n in
        let past = passed ss j in
        let count = round-length bins ss j v in
        let last = last-in i n v.two below in
        let starts = v.starts in
        let all = v.all in
        let z : past + (a + m - 1) ≡ past + a + m - 1 = omega arith in
        subst (λ (x : ℤ). pos 0 ≤ℤ x)
        (sym (run-elsewhere e read (join_round bins ss j) ss a (past + a) m (before-run bins ss j v a (omega arith)) (before-run bins ss j v (a + m - 1) (omega arith) ∙ ap (segment_at ss) z)))
        (above m two (past + a) (omega arith))

    -- one step, which makes the next join: it is seen by the modes that it leaves
    pub none-stepped : length (join_all 1 (ring_joins e read bins) ss) < length ss
        → NoneAmong e read (join_all 1 (ring_joins e read bins) ss) (length (join_all 1 (ring_joins e read bins) ss) - 1)
    unfolding join_all
    none-stepped = go (next_round e read bins ss) refl
      where
        Left : List Segment → Type 0
        Left ts = length ts < length ss → NoneAmong e read ts (length ts - 1)

        go : (o : Option Join) → next_round e read bins ss ≡ o → Left (maybe ss (join_round bins ss) o)
        go none q = λ l. absurd (omega arith)
        go (some j) q = λ l.
            let r = round-of e read bins ss j q in
            subst (λ (k : Join). lt_z k.cost (pos 0) ≡ true → RoundRun ss k → NoneAmong e read (join_round bins ss k) (length (join_round bins ss k) - 1)) r.same
            (none-moved r.first r.len) (round-below e read bins ss j q) (round-run e read bins ss j q)
