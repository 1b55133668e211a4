-- The modes of a ring, twice over, and one turn of them from any one on. Assumes nothing.
use Prim.Native.Nat.{ℕ, suc, ◌+◌, ◌-◌, ◌≤◌, ◌<◌}
use mathlib.Core.Path.{◌≡◌, sym, ap, ◌∙◌}
use mathlib.Core.List.{List, map}
use native.Mathlib.Omega.{arith}
use lib.ListN.{length, take, drop, length-append, length-map, length-drop, get_or-append}
use lib.Seq.{length-take-le, get_or-append-add, get_or-take, get_or-drop}
use Rattle.lists.proofs.Cases.{by_order}
use Rattle.lists.proofs.Places.{map_at}
use Rattle.segmentation.specs.Segments.{Segment, segment_at}
use Rattle.segmentation.proofs.Kept.{chain-starts, chain-ends}
use Rattle.segmentation.specs.Joining.{Join, last_in}
use Rattle.segmentation.specs.Around.{later, twice}
use Rattle.segmentation.specs.Finished.{Chain, RingCut}

abbrev nothing : Segment
nothing = record { start = 0; peak = 0; end = 0 }

-- how many of the first modes a run goes on to, past the last one: 0 where the difference would be negative
abbrev pub passed : List Segment → Join → ℕ
passed ss j = j.first + j.len - length ss

-- the modes of one turn, from number k on
unfoldable pub turn_from : ℕ → (bins : ℕ) → List Segment → List Segment
turn_from k bins ss = take (length ss) (drop k (twice bins ss))

module _ (bins : ℕ) (ss : List Segment) where
  pub twice-length : length (twice bins ss) ≡ length ss + length ss
  unfolding twice
  twice-length = omega (arith, length-append ss (map (later bins) ss), length-map ss (later bins))

  pub twice-first : (m : ℕ) → m < length ss → segment_at (twice bins ss) m ≡ segment_at ss m
  unfolding twice
  twice-first m l = get_or-append ss (map (later bins) ss) nothing m l

  pub twice-later : (m : ℕ) → m < length ss → segment_at (twice bins ss) (length ss + m) ≡ later bins (segment_at ss m)
  unfolding twice
  twice-later m l = get_or-append-add ss (map (later bins) ss) m nothing ∙ map_at (later bins) ss m nothing nothing l

  pub turn-length : (k : ℕ) → k ≤ length ss → length (turn_from k bins ss) ≡ length ss
  unfolding turn_from
  turn-length k l = length-take-le (length ss) (drop k (twice bins ss)) (omega (arith, length-drop k (twice bins ss), twice-length))

  pub turn_at : (k m : ℕ) → m < length ss → segment_at (turn_from k bins ss) m ≡ segment_at (twice bins ss) (k + m)
  unfolding turn_from
  turn_at k m l = get_or-take (length ss) (drop k (twice bins ss)) m nothing l ∙ get_or-drop k (twice bins ss) m nothing

-- ---- of a ring that is cut into modes
module _ {bins : ℕ} {ss : List Segment} (c : RingCut bins ss) where
  -- number m of the modes twice over: a mode, or one a turn later
  at-twice : (P : Segment → Type 0) → ((m : ℕ) → m < length ss → P (segment_at ss m)) → ((m : ℕ) → m < length ss → P (later bins (segment_at ss m)))
      → (m : ℕ) → m < length ss + length ss → P (segment_at (twice bins ss) m)
  at-twice P f g m l =
      by_order m (length ss)
      (λ k. rw (twice-first bins ss m k) (f m k))
      (λ k.
      let d = m - length ss in
      let e : m ≡ length ss + d = omega arith in
      rw (e, twice-later bins ss d (omega arith)) (g d (omega arith)))

  pub twice-chain : Chain (twice bins ss)
  twice-chain = record {
    adjacent = λ m l. adjacent m (omega (arith, twice-length bins ss));
    ascending = λ m l.
        at-twice (λ (s : Segment). s.start < s.end) c.chain.ascending (λ k i. omega (arith, c.chain.ascending k i)) m (omega (arith, twice-length bins ss));
    peak_inside = λ m l.
        at-twice (λ (s : Segment). (s.start ≤ s.peak) × (s.peak ≤ s.end)) c.chain.peak_inside
        (λ k i. (omega (arith, (c.chain.peak_inside k i).0), omega (arith, (c.chain.peak_inside k i).1))) m (omega (arith, twice-length bins ss));
  }
    where
      adjacent : (m : ℕ) → suc m < length ss + length ss → (segment_at (twice bins ss) m).end ≡ (segment_at (twice bins ss) (suc m)).start
      adjacent m l =
          by_order (suc m) (length ss)
          (λ k.
          ap (λ (s : Segment). s.end) (twice-first bins ss m (omega arith)) ∙ c.chain.adjacent m k
          ∙ sym (ap (λ (s : Segment). s.start) (twice-first bins ss (suc m) k)))
          (λ k. by_order m (length ss)
          (λ i.
          let last : m ≡ length ss - 1 = omega arith in
          let next : suc m ≡ length ss + 0 = omega arith in
          ap (λ (s : Segment). s.end) (twice-first bins ss m i) ∙ ap (λ (n : ℕ). (segment_at ss n).end) last ∙ c.once_round
          ∙ sym (ap (λ (n : ℕ). (segment_at (twice bins ss) n).start) next ∙ ap (λ (s : Segment). s.start) (twice-later bins ss 0 c.non_empty)))
          (λ i.
          let d = m - length ss in
          let e : m ≡ length ss + d = omega arith in
          let f : suc m ≡ length ss + suc d = omega arith in
          ap (λ (n : ℕ). (segment_at (twice bins ss) n).end) e ∙ ap (λ (s : Segment). s.end) (twice-later bins ss d (omega arith))
          ∙ ap (λ (n : ℕ). n + bins) (c.chain.adjacent d (omega arith))
          ∙ sym (ap (λ (n : ℕ). (segment_at (twice bins ss) n).start) f ∙ ap (λ (s : Segment). s.start) (twice-later bins ss (suc d) (omega arith)))))

  -- ---- one turn from number k on
  module _ (k : ℕ) (within : k < length ss) where
    pub turn-chain : Chain (turn_from k bins ss)
    turn-chain = record {
      adjacent = λ m l.
          let n = turn-length bins ss k (omega arith) in
          let e : k + suc m ≡ suc (k + m) = omega arith in
          ap (λ (s : Segment). s.end) (turn_at bins ss k m (omega arith)) ∙ twice-chain.adjacent (k + m) (omega (arith, twice-length bins ss))
          ∙ ap (λ (i : ℕ). (segment_at (twice bins ss) i).start) (sym e) ∙ sym (ap (λ (s : Segment). s.start) (turn_at bins ss k (suc m) (omega arith)));
      ascending = λ m l.
          let n = turn-length bins ss k (omega arith) in
          rw (turn_at bins ss k m (omega arith)) (twice-chain.ascending (k + m) (omega (arith, twice-length bins ss)));
      peak_inside = λ m l.
          let n = turn-length bins ss k (omega arith) in
          rw (turn_at bins ss k m (omega arith)) (twice-chain.peak_inside (k + m) (omega (arith, twice-length bins ss)));
    }

    pub turn-first : (segment_at (turn_from k bins ss) 0).start ≡ (segment_at ss k).start
    turn-first =
        let e : k + 0 ≡ k = omega arith in
        ap (λ (s : Segment). s.start) (turn_at bins ss k 0 c.non_empty) ∙ ap (λ (i : ℕ). (segment_at (twice bins ss) i).start) e
        ∙ ap (λ (s : Segment). s.start) (twice-first bins ss k within)

    -- it ends where it starts, a turn later
    pub turn_last : (segment_at (turn_from k bins ss) (length ss - 1)).end ≡ (segment_at ss k).start + bins
    turn_last =
        by_order 0 k
        (λ l.
        let e : k + (length ss - 1) ≡ length ss + (k - 1) = omega (arith, c.non_empty) in
        let s : suc (k - 1) ≡ k = omega arith in
        ap (λ (s : Segment). s.end) (turn_at bins ss k (length ss - 1) (omega (arith, c.non_empty)))
        ∙ ap (λ (i : ℕ). (segment_at (twice bins ss) i).end) e ∙ ap (λ (s : Segment). s.end) (twice-later bins ss (k - 1) (omega arith))
        ∙ ap (λ (n : ℕ). n + bins) (c.chain.adjacent (k - 1) (omega arith) ∙ ap (λ (i : ℕ). (segment_at ss i).start) s))
        (λ l.
        let z : k ≡ 0 = omega arith in
        let e : k + (length ss - 1) ≡ length ss - 1 = omega arith in
        ap (λ (s : Segment). s.end) (turn_at bins ss k (length ss - 1) (omega (arith, c.non_empty)))
        ∙ ap (λ (i : ℕ). (segment_at (twice bins ss) i).end) e ∙ ap (λ (s : Segment). s.end) (twice-first bins ss (length ss - 1) (omega (arith, c.non_empty)))
        ∙ c.once_round ∙ ap (λ (i : ℕ). (segment_at ss i).start + bins) (sym z))

    -- each of it is a mode, or one of those before number k a turn later
    pub in-turn : (P : Segment → Type 0) → ((m : ℕ) → m < length ss → P (segment_at ss m)) → ((m : ℕ) → m < k → P (later bins (segment_at ss m)))
        → (m : ℕ) → m < length ss → P (segment_at (turn_from k bins ss) m)
    in-turn P f g m l =
        rw (turn_at bins ss k m l) (by_order (k + m) (length ss)
        (λ i. rw (twice-first bins ss (k + m) i) (f (k + m) i))
        (λ i.
        let d = k + m - length ss in
        let e : k + m ≡ length ss + d = omega arith in
        rw (e, twice-later bins ss d (omega arith)) (g d (omega arith))))

  -- a mode before another ends in the first turn
  pub ends-in-turn : (m k : ℕ) → m < k → k < length ss → (segment_at ss m).end < bins
  ends-in-turn m k l i =
      let a = c.chain.adjacent m (omega arith) in
      omega (arith, chain-starts ss c.chain (suc m) k l i, c.first_turn k i)

  -- a run from mode i on ends within a turn from its start
  pub round-end : (i n : ℕ) → i < length ss → 1 ≤ n → n ≤ length ss → (last_in (twice bins ss) i n).end ≤ (segment_at ss i).start + bins
  round-end i n starts one all =
      let t = twice-length bins ss in
      let e : suc (i + length ss - 1) ≡ length ss + i = omega arith in
      let turn : (segment_at (twice bins ss) (i + length ss - 1)).end ≡ (segment_at ss i).start + bins =
      twice-chain.adjacent (i + length ss - 1) (omega arith) ∙ ap (λ (k : ℕ). (segment_at (twice bins ss) k).start) e
      ∙ ap (λ (s : Segment). s.start) (twice-later bins ss i starts) in
      omega (arith, turn, chain-ends (twice bins ss) twice-chain (i + n - 1) (i + length ss - 1) (omega arith) (omega arith))
