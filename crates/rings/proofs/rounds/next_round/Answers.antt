-- The modes stand twice over, and the next join is found among them. Assumes nothing.
use Rattle.std.proofs.Common.{ℕ, true, ◌≡◌, ◌+◌, ◌≤◌, List, length, refl, sym, ap, ap₂, subst, ◌∙◌, arith, rules}
use Rattle.pooling.specs.Limits.{most_ring_bins}
use Rattle.segmentation.specs.declared.Line.{Line}
use Rattle.segmentation.specs.declared.Segments.{Segments}
use Rattle.segmentation.specs.Segments.{Segment}
use Rattle.segmentation.specs.Joining.{Reader, next_among}
use Rattle.segmentation.specs.Around.{twice, next_round}
use Rattle.segmentation.specs.Held.{segments_held, held}
use Rattle.segmentation.specs.Runs.{reader_of, AllInside, NoneAmong, OnRing}
use Rattle.segmentation.proofs.Holding.{held-length}
use Rattle.segmentation.proofs.RunsInside.{ring-inside}
use Rattle.segmentation.proofs.RoundKept.{none-twice}
use Rattle.rings.specs.Twice.{RingHeld, Repeated}
use Rattle.rings.proofs.HeldTwice.{held-twice, held_kept, turn_end, separators-most, peaks-most, ring-count}
use Rattle.rings.proofs.rounds.next_round.Goals as goal

-- the modes of a ring, held twice over in t and q then
module _ {N : ℕ} (turns : Line) (modes : Segments N) (bins : ℕ) (ring : RingHeld turns modes bins) where
  abbrev read : Reader
  read = reader_of turns

  abbrev n : ℕ
  n = modes.count

  count : length (held modes) ≡ n
  count = held-length modes.separators modes.peaks 0 n

  few : n ≤ bins
  few = ring-count modes.separators modes.peaks n bins ring.on_ring.cut

  module _ (t q : List ℕ) (rs : Repeated modes.separators t 1 n bins) (rp : Repeated modes.peaks q 0 n bins) where
    again : segments_held t q 0 (n + n) ≡ twice bins (held modes)
    again = held-twice modes.separators modes.peaks t q n bins rs rp (turn_end modes.separators modes.peaks n bins ring.on_ring.cut)

    -- every run round the ring lies in the two turns
    inside : AllInside turns.bins.now t q true n
    inside =
        let few-bins : length ring.turn ≤ most_ring_bins = omega (arith, ring.as_long, ring.limits) in
        let on = subst (λ (b : ℕ). OnRing b ring.turn (held modes)) (sym ring.as_long) ring.on_ring in
        let as-held = again ∙ ap (λ (b : ℕ). twice b (held modes)) (sym ring.as_long) in
        subst (λ (xs : List ℕ). AllInside xs t q true n) (sym ring.turns) (ring-inside ring.turn few-bins ring.limits.1 (held modes) on t q n (sym count) as-held)

    -- and those of the first modes are as they were
    none_left : (known : ℕ) → known ≤ n → NoneAmong turns.closeness read (held modes) known → NoneAmong turns.closeness read (segments_held t q 0 (n + n)) known
    none_left known within none =
        subst (λ (ss : List Segment). NoneAmong turns.closeness read ss known) (sym again)
        (none-twice turns.closeness read bins (held modes) known (omega (arith, count)) none)

    -- what is found among them comes next round the ring
    next-is : next_among turns.closeness read (segments_held t q 0 (n + n)) true n ≡ next_round turns.closeness read bins (held modes)
    unfolding next_round
    next-is = ap₂ (λ (ss : List Segment) (k : ℕ). next_among turns.closeness read ss true k) again (sym count)

pub repeat-requires : goal.repeat-requires
repeat-requires c =
    let v = c.args.modes.now in
    let ring = c.requires.ring_held in
    let most = ring.limits.0 in
    (omega (arith, ring.prepared.places), omega arith, λ k l. omega (arith, separators-most v.separators v.peaks v.count c.args.bins ring.on_ring.cut k l))

pub repeat-requires-2 : goal.repeat-requires-2
repeat-requires-2 c =
    let v = c.args.modes.now in
    let ring = c.requires.ring_held in
    let most = ring.limits.0 in
    (omega (arith, ring.prepared.places), omega arith, λ k l. omega (arith, peaks-most v.separators v.peaks v.count c.args.bins ring.on_ring.cut k l))

pub next_join-requires : goal.next_join-requires
next_join-requires c =
    let a = c.args in
    let v = a.modes.now in
    let ring = c.requires.ring_held in
    let most = ring.limits.0 in
    let none = c.requires.none_among in
    let rs : Repeated v.separators c.repeat.new.a 1 v.count c.args.bins = search rules in
    let below = few a.turns.now v a.bins ring in (
      search rules,
      (
        record { places = (omega (arith, ring.prepared.places, c.repeat.auto), omega (arith, ring.prepared.places, c.repeat-2.auto)) },
        (
          inside a.turns.now v a.bins ring c.repeat.new.a c.repeat-2.new.a rs c.repeat-2.ensures,
          (
            none_left a.turns.now v a.bins ring c.repeat.new.a c.repeat-2.new.a rs c.repeat-2.ensures a.known none.1 none.0,
            (omega (arith, ring.on_ring.cut.non_empty, count a.turns.now v a.bins ring), omega arith, none.1),
          ),
        ),
      ),
    )

pub returns-clause-next : goal.returns-clause-next
returns-clause-next c =
    let a = c.args in
    let v = a.modes.now in
    let rs : Repeated v.separators c.repeat.new.a 1 v.count c.args.bins = search rules in
    c.next_join.ensures ∙ next-is a.turns.now v a.bins c.requires.ring_held c.repeat.new.a c.repeat-2.new.a rs c.repeat-2.ensures

pub returns-clause-held : goal.returns-clause-held
returns-clause-held c =
    let v = c.args.modes.now in
    let rs : Repeated v.separators c.repeat.new.a 1 v.count c.args.bins = search rules in
    (refl, held_kept v.separators v.peaks c.repeat.new.a c.repeat-2.new.a v.count c.args.bins rs c.repeat-2.ensures)

pub returns-clause-again : goal.returns-clause-again
returns-clause-again c =
    let a = c.args in
    let v = a.modes.now in
    let rs : Repeated v.separators c.repeat.new.a 1 v.count c.args.bins = search rules in
    again a.turns.now v a.bins c.requires.ring_held c.repeat.new.a c.repeat-2.new.a rs c.repeat-2.ensures
