-- Every ring ends finished: what its opened line has, and each join round it keeps, holds of its modes. Assumes nothing.
use Prim.Native.Nat.{ℕ, ◌+◌, ◌*◌, ◌-◌, ◌%◌, ◌≤◌, ◌<◌}
use mathlib.Core.Path.{◌≡◌, refl, sym, ap, subst, ◌∙◌}
use mathlib.Core.Bool.{true, false}
use mathlib.Core.List.{List, ◌++◌}
use mathlib.Core.Option.{some}
use native.Mathlib.Omega.{arith}
use lib.Dec.{ltb}
use lib.ListN.{length, take}
use lib.IntN.{pos}
use lib.Signed.{lt_z, ◌≤ℤ◌}
use borrow.Author.Tests.{ltb-true}
use Rattle.lists.specs.Lists.{total, part, over, ExactlyOne}
use Rattle.lists.proofs.Cases.{by_order}
use Rattle.lists.proofs.Buffers.{over-front}
use Rattle.lists.proofs.Connectives.{both_true}
use Rattle.lists.proofs.Sums.{total-at, total-more}
use Rattle.lists.proofs.Rotations.{mod_below}
use Rattle.pooling.specs.Blocks.{Direction, increasing, decreasing}
use Rattle.pooling.specs.Limits.{most_ring_bins, most_ring_counts}
use Rattle.verdict.specs.Test.{Closeness}
use Rattle.verdict.specs.Exactness.{VerdictSound}
use Rattle.verdict.proofs.Sound.{verdict-sound}
use Rattle.segmentation.specs.Segments.{Segment, segment_at, bin_at, is_valley, first_segments}
use Rattle.segmentation.specs.Joining.{line_reader, last_in, rise_of, fall_of, Join, join, rise_cost, fall_cost, join_of, next_join, line_modes}
use Rattle.segmentation.specs.Around.{twice, next_round, join_round, ring_joins}
use Rattle.segmentation.specs.Ring.{opening, opened, ring_bin, line_place, from_opening, two_turns, round_reader, ring_modes, in_ring_mode}
use Rattle.segmentation.specs.Finished.{Cut, SingleHump, RingCut, FinishedRound, RingAlwaysFinished}
use Rattle.segmentation.specs.Runs.{OnRing, NoneAmong}
use Rattle.segmentation.proofs.Kept.{Run, between, chain-ends, join-starts, hump-at, at-hump}
use Rattle.segmentation.proofs.Settled.{unjoinable, line-settled, one-joins-none, join-all-keeps, joins-none, settled, none-joinable}
use Rattle.segmentation.proofs.ModeStarts.{starts_of, starts-length}
use Rattle.segmentation.proofs.FirstCut.{separator_at, first-segment, first-neighbours}
use Rattle.segmentation.proofs.Finishing.{part_length, kept, modes-cut, modes-humps}
use Rattle.segmentation.proofs.RingPlaces.{opening-in, opening-lowest, opening-first, ring-length, ring-bins, ring_in, place_in, place-bin}
use Rattle.segmentation.proofs.TwoTurns.{opening-length, opening-total, opening-bins, turns-length, turns-bins, opened-part, part-later, part-once, part-turn}
use Rattle.segmentation.proofs.RoundKept.{RoundRun, round-of, round-run, round-below, ring-shortens, on-ring-kept, round-humps}
use Rattle.segmentation.proofs.RoundOne.{round-one}
use Rattle.segmentation.proofs.Turned.{twice-length, twice-first, twice-chain, round-end}

-- ---- a separator's bin holds at most half of the ring's counts: it is the lowest bin, or below its neighbour
abbrev Low : List ℕ → ℕ → Type 0
Low turn s = 2 * bin_at turn s ≤ total turn

two-members : (turn : List ℕ) (s : ℕ) → 0 < s → s < length turn → bin_at turn (s - 1) + bin_at turn s ≤ total turn
two-members turn s a l =
    let e : s - 1 + 1 ≡ s = omega arith in
    omega (arith, total-at turn s l, total-more turn (s - 1) (omega arith), ap (λ (k : ℕ). total (take k turn)) e)

module _ (h : List ℕ) (two : 2 ≤ length h) where
  one : 1 ≤ length h
  one = omega arith

  opened-two : 2 ≤ length (opened h)
  opened-two = omega (arith, ring-length h one)

  opened-bin : (s : ℕ) → s < length h → bin_at (opened h) s ≡ bin_at (from_opening h) s
  opened-bin s l = ring-bins h one s (omega arith) ∙ sym (opening-bins h one s l)

  ring-zero : ring_bin h 0 ≡ opening h
  unfolding ring_bin
  ring-zero =
      let e : opening h + 0 ≡ opening h = omega arith in
      ap (λ (i : ℕ). i % length h) e ∙ mod_below (opening h) (length h) (opening-in h one)

  lowest-low : Low (from_opening h) 0
  lowest-low =
      let k : 1 < length (from_opening h) = omega (arith, opening-length h one) in
      omega (
        arith,
        two-members (from_opening h) 1 (omega arith) k,
        opening-bins h one 0 (omega arith),
        opening-bins h one 1 two,
        ap (bin_at h) ring-zero,
        opening-lowest h (ring_bin h 1) (ring_in h one 1),
      )

  valley-low : (s : ℕ) → s < length h → 0 < s → is_valley (opened h) s ≡ true → Low (from_opening h) s
  unfolding is_valley
  valley-low s l a t =
      let b = ltb-true (bin_at (opened h) s) (bin_at (opened h) (s - 1)) (both_true (ltb (bin_at (opened h) s) (bin_at (opened h) (s - 1))) _ t).0 in
      omega (arith, b, opened-bin s l, opened-bin (s - 1) (omega arith), two-members (from_opening h) s a (omega (arith, opening-length h one)))

  first-low : (m : ℕ) → m < length (first_segments (opened h)) → Low (from_opening h) (segment_at (first_segments (opened h)) m).start
  first-low m l =
      let s = separator_at (opened h) m in
      let q : (segment_at (first_segments (opened h)) m).start ≡ s = ap (λ (x : Segment). x.start) (first-segment (opened h) opened-two m l) in
      let n = first-neighbours (opened h) opened-two m l in
      let k : s < length h = omega (arith, n.below, n.within, ring-length h one) in
      rw q (by_order 0 s (λ a. valley-low s k a (n.starts a)) (λ a. let z : s ≡ 0 = omega arith in rw z lowest-low))

  module _ (e : Closeness) where
    -- ---- the modes of the opened line, as modes of the ring
    line-cut : Cut (length (opened h)) (line_modes e (opened h))
    line-cut = modes-cut e (opened h) opened-two

    line_low : (m : ℕ) → m < length (line_modes e (opened h)) → Low (from_opening h) (segment_at (line_modes e (opened h)) m).start
    line_low = (kept e (opened h) opened-two LowStarts keeps first-low).1
      where
        LowStarts : List Segment → Type 0
        LowStarts ss = (m : ℕ) → m < length ss → Low (from_opening h) (segment_at ss m).start

        keeps : (ss : List Segment) (j : Join) → next_join e (line_reader (opened h)) ss ≡ some j → Cut (length (opened h)) ss → Run ss j → LowStarts ss → LowStarts (join ss j)
        keeps ss j q c v low m l = let r = join-starts ss j c.chain v m l in rw r.2 (low r.0 r.1)

    line-last : (m : ℕ) → m < length (line_modes e (opened h)) → (segment_at (line_modes e (opened h)) m).end ≤ length h
    line-last m l =
        let ss = line_modes e (opened h) in
        let c = line-cut in
        omega (arith, chain-ends ss c.chain m (length ss - 1) (omega arith) (omega arith), c.to_last_bin, ring-length h one)

    pub line-on-ring : OnRing (length h) (from_opening h) (line_modes e (opened h))
    line-on-ring =
        let c = line-cut in
        record {
          cut = record {
            non_empty = c.non_empty;
            first_turn = λ m l. omega (arith, c.chain.ascending m l, line-last m l);
            once_round = omega (arith, c.to_last_bin, c.from_first_bin, ring-length h one);
            chain = c.chain;
          };
          low = line_low;
        }

    -- a run of the line's modes costs the same read round the ring
    line-run : (i n : ℕ) → 1 ≤ n → i + n ≤ length (line_modes e (opened h))
        → join_of e (line_reader (opened h)) (line_modes e (opened h)) i n ≡ join_of e (round_reader h) (line_modes e (opened h)) i n
    unfolding join_of rise_cost fall_cost rise_of fall_of
    line-run i n positive l =
        let ss = line_modes e (opened h) in
        let b = between ss line-cut.chain i n positive l in
        let last = line-last (i + n - 1) (omega arith) in
        rw (
          opened-part h one (segment_at ss i).start (last_in ss i n).peak b.rise_from (omega (arith, b.rise_to)),
          opened-part h one (segment_at ss i).peak (last_in ss i n).end b.fall_to last,
        ) refl

    -- so none of them is joinable there
    pub line-none : NoneAmong e (round_reader h) (line_modes e (opened h)) (length (line_modes e (opened h)))
    line-none n a i k =
        let ss = line_modes e (opened h) in
        subst (λ (j : Join). pos 0 ≤ℤ j.cost) (line-run i n (omega arith) (omega arith))
        (unjoinable e (line_reader (opened h)) ss false (length ss) i n (line-settled e (opened h)) a (omega arith) (omega arith))

    abbrev Humps : List Segment → Type 0
    Humps ss = (m : ℕ) → m < length ss → SingleHump e (round_reader h) ss m

    line-humps : Humps (line_modes e (opened h))
    line-humps m l =
        let ss = line_modes e (opened h) in
        let s = segment_at ss m in
        let p = line-cut.chain.peak_inside m l in
        let last = line-last m l in
        let k = hump-at e (line_reader (opened h)) ss m (modes-humps e (opened h) opened-two m l) in
        at-hump e (round_reader h) ss m s refl (
          rw (opened-part h one s.start s.peak p.0 (omega arith)) at k.0,
          rw (opened-part h one s.peak s.end p.1 last) at k.1,
        )

    -- ---- what every join round the ring keeps, given that its modes lie on the ring, holds of its modes
    pub kept-round : (P : List Segment → Type 0)
        → ((ss : List Segment) (j : Join) → next_round e (round_reader h) (length h) ss ≡ some j → OnRing (length h) (from_opening h) ss → P ss → P (join_round (length h) ss j))
        → P (line_modes e (opened h)) → OnRing (length h) (from_opening h) (ring_modes e h) × P (ring_modes e h)
    unfolding ring_modes
    kept-round P keeps p =
        join-all-keeps (ring_joins e (round_reader h) (length h)) (λ ss. OnRing (length h) (from_opening h) ss × P ss)
        (λ ss j q o. (on-ring-kept e (round_reader h) (length h) (from_opening h) ss j q o.0, keeps ss j q o.0 o.1))
        (length (line_modes e (opened h))) (line_modes e (opened h)) (line-on-ring, p)

    read-later : (i j : ℕ) → i ≤ j → j < length h → round_reader h (i + length h) (j + length h) ≡ round_reader h i j
    unfolding two_turns
    read-later i j l k = let n = opening-length h one in rw n at (part-later (from_opening h) i j l (omega (arith, n)))

    all-kept : OnRing (length h) (from_opening h) (ring_modes e h) × Humps (ring_modes e h)
    all-kept = kept-round Humps keeps line-humps
      where
        keeps : (ss : List Segment) (j : Join) → next_round e (round_reader h) (length h) ss ≡ some j
            → OnRing (length h) (from_opening h) ss → Humps ss → Humps (join_round (length h) ss j)
        keeps ss j q o humps =
            let r = round-of e (round_reader h) (length h) ss j q in
            subst (λ (k : Join). lt_z k.cost (pos 0) ≡ true → RoundRun ss k → Humps (join_round (length h) ss k)) r.same
            (λ b w. round-humps e (round_reader h) (length h) read-later ss o.cut humps r.first r.len w b)
            (round-below e (round_reader h) (length h) ss j q) (round-run e (round_reader h) (length h) ss j q)

    pub ring-on-ring : OnRing (length h) (from_opening h) (ring_modes e h)
    ring-on-ring = all-kept.0

    pub ring_cut : RingCut (length h) (ring_modes e h)
    ring_cut = ring-on-ring.cut

    ring-finished-round : FinishedRound e (round_reader h) (length h) (ring_modes e h)
    unfolding ring_modes next_round
    ring-finished-round =
        let line = line_modes e (opened h) in
        let ss = ring_modes e h in
        let w = ring_joins e (round_reader h) (length h) in
        record {
          cut = ring_cut;
          none_joinable = λ i n s a b.
              none-joinable e (round_reader h) _ true (length ss) i n (settled w (ring-shortens e (round_reader h) (length h)) (length line) line (omega arith)) a b (omega arith);
          humps = all-kept.1;
        }

    -- the ring has no more modes than its opened line
    pub ring-fewer : length (ring_modes e h) ≤ length (line_modes e (opened h))
    ring-fewer =
        (kept-round (λ ss. length ss ≤ length (line_modes e (opened h)))
        (λ ss j q o l. omega (arith, (ring-shortens e (round_reader h) (length h)).fewer ss j q)) (omega arith)).1

    pub ring-one-mode : (b : ℕ) → ExactlyOne (length (ring_modes e h)) (λ m. in_ring_mode e h m b)
    unfolding in_ring_mode
    ring-one-mode b = round-one (length h) (ring_modes e h) ring_cut (line_place h b) (place_in h one b)

-- a ring whose line has one mode keeps it
pub ring-one-kept : (e : Closeness) (h : List ℕ) → length (line_modes e (opened h)) ≤ 1 → ring_modes e h ≡ line_modes e (opened h)
unfolding ring_modes next_round
ring-one-kept e h l =
    let ss = line_modes e (opened h) in
    joins-none (ring_joins e (round_reader h) (length h)) (length ss) ss (one-joins-none e (round_reader h) (twice (length h) ss) true (length ss) l)

-- ---- behind every verdict
module _ (e : Closeness) (w : Direction) (h : List ℕ) (two : 2 ≤ length h) (bins : length h ≤ most_ring_bins) (counts : total h ≤ most_ring_counts) where
  once-sound : (i j : ℕ) → i ≤ j → j < i + length h → j < length h + length h → VerdictSound e w (round_reader h i j)
  unfolding two_turns
  once-sound i j a b c =
      let n : 1 ≤ length h = omega arith in
      let k = opening-length h n in
      verdict-sound e w (round_reader h i j)
      (omega (arith, part_length i j (two_turns h) a (omega (arith, turns-length h n))))
      (omega (arith, part-once (from_opening h) i j a (omega arith) (omega arith), opening-total h))

  turn-sound : (i : ℕ) → i < length h → Low (from_opening h) i → VerdictSound e w (round_reader h i (i + length h))
  unfolding two_turns
  turn-sound i a low =
      let n : 1 ≤ length h = omega arith in
      let turn = from_opening h in
      let k = opening-length h n in
      verdict-sound e w (round_reader h i (i + length h))
      (omega (arith, part_length i (i + length h) (two_turns h) (omega arith) (omega (arith, turns-length h n))))
      (omega (arith, ap (λ (z : ℕ). total (part i (i + z) (turn ++ turn))) k, part-turn turn i (omega arith), opening-total h))

  -- every stretch between a separator and that separator a turn later
  within-sound : (m : ℕ) → m < length (ring_modes e h) → (i j : ℕ) → (segment_at (ring_modes e h) m).start ≤ i → i ≤ j → j ≤ (segment_at (ring_modes e h) m).start + length h
      → VerdictSound e w (round_reader h i j)
  within-sound m l i j a b c =
      let on = ring-on-ring h two e in
      let s = (segment_at (ring_modes e h) m).start in
      let first = on.cut.first_turn m l in
      by_order j (i + length h)
      (λ u. once-sound i j b u (omega arith))
      (λ u.
      let from : i ≡ s = omega arith in
      let to : j ≡ s + length h = omega arith in
      subst (λ (z : ℕ). VerdictSound e w (round_reader h z j)) (sym from) (subst (λ (z : ℕ). VerdictSound e w (round_reader h s z)) (sym to) (turn-sound s first (on.low m l))))

-- the two stretches of a run lie there
run_sound : (e : Closeness) (h : List ℕ) → 2 ≤ length h → length h ≤ most_ring_bins → total h ≤ most_ring_counts → (i n : ℕ) → i < length (ring_modes e h) → 1 ≤ n → n ≤ length (ring_modes e h)
    → VerdictSound e increasing (rise_of (round_reader h) (twice (length h) (ring_modes e h)) i n) × VerdictSound e decreasing (fall_of (round_reader h) (twice (length h) (ring_modes e h)) i n)
unfolding rise_of fall_of
run_sound e h two bins counts i n here some-modes all =
    let ss = ring_modes e h in
    let c = ring_cut h two e in
    let both = twice (length h) ss in
    let b = between both (twice-chain c) i n some-modes (omega (arith, twice-length (length h) ss)) in
    let start = ap (λ (s : Segment). s.start) (twice-first (length h) ss i here) in
    let last = round-end c i n here some-modes all in (
      within-sound e increasing h two bins counts i here (segment_at both i).start (last_in both i n).peak (omega arith) b.rise_from (omega (arith, b.rise_to)),
      within-sound e decreasing h two bins counts i here (segment_at both i).peak (last_in both i n).end (omega (arith, b.fall_from)) b.fall_to last,
    )

pub ring-finished : RingAlwaysFinished
ring-finished e h two bins counts =
    let n : 1 ≤ length h = omega arith in
    let on = ring-on-ring h two e in
    record {
      in_ring = opening-in h n;
      lowest = opening-lowest h;
      lowest_numbered = opening-first h;
      opened_length = ring-length h n;
      opened_bins = ring-bins h n;
      round_length = turns-length h n;
      round_bins = turns-bins h n;
      place = λ b k. (place_in h n b, place-bin h n b k);
      finished = ring-finished-round h two e;
      one_mode = λ b k. ring-one-mode h two e b;
      runs = run_sound e h two bins counts;
      verdicts = λ w. once-sound e w h two bins counts;
      full_turns = λ w i l low. turn-sound e w h two bins counts i l (omega (arith, low, opening-bins h n i l, opening-total h));
      low = λ m l. omega (arith, on.low m l, opening-bins h n (segment_at (ring_modes e h) m).start (on.cut.first_turn m l), opening-total h);
    }

-- ---- where the modes start, as the code has it in the first n places
pub ring-starts-taken : (e : Closeness) (h buffer list : List ℕ) (n : ℕ) → n ≡ length (ring_modes e h) → list ≡ over (starts_of (ring_modes e h)) buffer
    → take n list ≡ starts_of (ring_modes e h)
ring-starts-taken e h buffer list n count is = ap (take n) is ∙ over-front _ buffer n (count ∙ sym (starts-length (ring_modes e h)))
