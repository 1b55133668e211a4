-- A step leaves fewer modes, which lie on the ring still. Assumes nothing.
use Rattle.std.proofs.Common.{ℕ, ◌≡◌, ◌+◌, ◌-◌, ◌≤◌, ◌<◌, List, length, refl, sym, ap, subst, ◌∙◌, arith}
use Rattle.std.proofs.Math.Option.{some}
use Rattle.verdict.specs.Test.{Closeness}
use Rattle.segmentation.specs.declared.Join.{Join}
use Rattle.segmentation.specs.Segments.{Segment}
use Rattle.segmentation.specs.Joining.{Reader, join_all}
use Rattle.segmentation.specs.Around.{twice, next_round, join_twice, join_round, ring_joins}
use Rattle.segmentation.specs.Held.{segments_held, join_found}
use Rattle.segmentation.specs.Runs.{reader_of, OnRing, NoneAmong}
use Rattle.segmentation.proofs.Holding.{held-length}
use Rattle.segmentation.proofs.Applied.{held-step}
use Rattle.segmentation.proofs.Settled.{joins-none, joins-more}
use Rattle.segmentation.proofs.RoundKept.{round-run, ring-shortens, on-ring-kept, none-stepped}
use Rattle.rings.proofs.HeldTwice.{joined-round, ring-count}
use Rattle.rings.proofs.rounds.join_round.Goals as goal

-- ---- n modes that are held, the next join of them, and r modes that are held when it is made
module _ (e : Closeness) (read : Reader) (bins : ℕ) (s p : List ℕ) (n : ℕ) (j : Join) (next : next_round e read bins (segments_held s p 0 n) ≡ some j) where
  abbrev modes : List Segment
  modes = segments_held s p 0 n

  valid : (2 ≤ j.len) × (j.len ≤ n) × (j.first < n)
  valid =
      let v = round-run e read bins modes j next in
      let c = held-length s p 0 n in
      (v.two, omega (arith, v.all), omega (arith, v.starts))

  -- held twice over, they are joined to those that are left
  made-is : (t q : List ℕ) (m : ℕ) → m ≡ n → segments_held t q 0 (m + m) ≡ twice bins modes → (left : List Segment) → left ≡ join_twice (segments_held t q 0 (m + m)) m j → left ≡ join_round bins modes j
  made-is t q m same again left made =
      made ∙ joined-round (segments_held t q 0 (m + m)) m bins modes j again (same ∙ sym (held-length s p 0 n))

  module _ (t q : List ℕ) (r : ℕ) (done : segments_held t q 0 r ≡ join_round bins modes j) where
    fewer : r < n
    fewer = omega (arith, (ring-shortens e read bins).fewer modes j next, held-length s p 0 n, held-length t q 0 r, ap length done)

    on-ring : (turn : List ℕ) → OnRing bins turn modes → OnRing bins turn (segments_held t q 0 r)
    on-ring turn on = subst (OnRing bins turn) (sym done) (on-ring-kept e read bins turn modes j next on)

    -- no run of them without the last one is joinable
    none_left : (known : ℕ) → known ≤ n → n ≤ known + 1 → NoneAmong e read modes known → NoneAmong e read (segments_held t q 0 r) (r - 1)
    unfolding join_all
    none_left known few most none =
        let c = held-length s p 0 n in
        let d = held-length t q 0 r in
        let one : segments_held t q 0 r ≡ join_all 1 (ring_joins e read bins) modes = done ∙ sym (joins-more (ring_joins e read bins) 0 modes j next) in
        let l = fewer in
        subst (λ (k : ℕ). NoneAmong e read (segments_held t q 0 r) (k - 1)) d
        (subst (λ (ss : List Segment). NoneAmong e read ss (length ss - 1)) (sym one)
        (none-stepped e read bins modes known (omega arith) (omega arith) none (omega (arith, ap length one))))

pub loop-join-init : goal.loop-join-init
loop-join-init c = record { fewer = omega arith; ring = c.requires.ring_held; none = c.requires.none_among; known = (omega arith, omega arith); same = refl }

pub apply_round-requires : goal.apply_round-requires
apply_round-requires c =
    let a = c.args in
    let v = c.loop-join.modes in
    let ring = c.loop-join.invariant.ring in
    let few = ring-count v.separators v.peaks v.count a.bins ring.on_ring.cut in
    let same = c.next_round.ensures.held.0 in
    let run = valid a.turns.now.closeness (reader_of a.turns.now) a.bins v.separators v.peaks v.count c.in-Some.join (sym c.next_round.ensures.next ∙ ap join_found c.in-Some.is) in
    (run.0, omega arith, omega arith, omega (arith, ring.limits))

pub overflow_sub-known : goal.overflow_sub-known
overflow_sub-known c =
    let a = c.args in
    let v = c.loop-join.modes in
    let r = c.next_round.new.modes in
    let t = c.apply_round.new.modes in
    let e = a.turns.now.closeness in
    let read = reader_of a.turns.now in
    let next = sym c.next_round.ensures.next ∙ ap join_found c.in-Some.is in
    let done = made-is e read a.bins v.separators v.peaks v.count c.in-Some.join next r.separators r.peaks r.count c.next_round.ensures.held.0 c.next_round.ensures.again (segments_held t.separators t.peaks 0 t.count) c.apply_round.ensures.0 in
    let ring = c.loop-join.invariant.ring in
    omega (arith, held-length t.separators t.peaks 0 t.count, (on-ring e read a.bins v.separators v.peaks v.count c.in-Some.join next t.separators t.peaks t.count done ring.turn ring.on_ring).cut.non_empty)

pub loop-join-smaller : goal.loop-join-smaller
loop-join-smaller c =
    let a = c.args in
    let v = c.loop-join.modes in
    let r = c.next_round.new.modes in
    let t = c.apply_round.new.modes in
    let e = a.turns.now.closeness in
    let read = reader_of a.turns.now in
    let next = sym c.next_round.ensures.next ∙ ap join_found c.in-Some.is in
    let done = made-is e read a.bins v.separators v.peaks v.count c.in-Some.join next r.separators r.peaks r.count c.next_round.ensures.held.0 c.next_round.ensures.again (segments_held t.separators t.peaks 0 t.count) c.apply_round.ensures.0 in
    fewer e read a.bins v.separators v.peaks v.count c.in-Some.join next t.separators t.peaks t.count done

pub loop-join-preserved : goal.loop-join-preserved
loop-join-preserved c =
    let a = c.args in
    let v = c.loop-join.modes in
    let r = c.next_round.new.modes in
    let t = c.apply_round.new.modes in
    let e = a.turns.now.closeness in
    let read = reader_of a.turns.now in
    let next = sym c.next_round.ensures.next ∙ ap join_found c.in-Some.is in
    let done = made-is e read a.bins v.separators v.peaks v.count c.in-Some.join next r.separators r.peaks r.count c.next_round.ensures.held.0 c.next_round.ensures.again (segments_held t.separators t.peaks 0 t.count) c.apply_round.ensures.0 in
    let i = c.loop-join.invariant in
    let less = fewer e read a.bins v.separators v.peaks v.count c.in-Some.join next t.separators t.peaks t.count done in
    let on = on-ring e read a.bins v.separators v.peaks v.count c.in-Some.join next t.separators t.peaks t.count done i.ring.turn i.ring.on_ring in
    let some : 1 ≤ t.count = omega (arith, held-length t.separators t.peaks 0 t.count, on.cut.non_empty) in
    record {
      fewer = omega (arith, i.fewer);
      ring = record {
        turn = i.ring.turn;
        turns = i.ring.turns;
        as_long = i.ring.as_long;
        limits = i.ring.limits;
        prepared = record { places = (omega (arith, i.ring.prepared.places, t.room, v.room), omega (arith, i.ring.prepared.places, t.room, v.room)) };
        on_ring = on;
      };
      none = none_left e read a.bins v.separators v.peaks v.count c.in-Some.join next t.separators t.peaks t.count done c.loop-join.known i.known.0 i.known.1 i.none;
      known = (omega arith, omega arith);
      same = held-step (ring_joins e read a.bins) (ring-shortens e read a.bins) v.separators v.peaks t.separators t.peaks v.count t.count c.in-Some.join next done ∙ i.same;
    }

pub returns : goal.returns
returns c =
    let a = c.args in
    let v = c.loop-join.modes in
    let i = c.loop-join.invariant in
    let held = c.next_round.ensures.held in
    let none = sym c.next_round.ensures.next ∙ ap join_found c.in_default.is in (
      held.1
          ∙ sym (joins-none (ring_joins a.turns.now.closeness (reader_of a.turns.now) a.bins) v.count (segments_held v.separators v.peaks 0 v.count) none)
          ∙ i.same,
      omega (arith, held.0, i.fewer),
    )
