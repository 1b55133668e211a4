-- Modes that are held twice over, and one turn of them moved to the front. Assumes nothing.
use Prim.Native.Nat.{ℕ, zero, suc, ◌+◌, ◌-◌, ◌≤◌, ◌<◌}
use mathlib.Core.Path.{◌≡◌, refl, sym, ap, ◌∙◌}
use mathlib.Core.List.{List}
use native.Mathlib.Omega.{arith}
use lib.ListN.{length, take, drop, get_or, length-drop}
use lib.Seq.{length-take-le, get_or-take, get_or-drop, paste, ext_get_or}
use Rattle.lists.proofs.Cases.{by_order}
use Rattle.lists.proofs.Shifts.{shift-at}
use Rattle.segmentation.specs.Segments.{Segment, segment_at}
use Rattle.segmentation.specs.declared.Join.{Join}
use Rattle.segmentation.specs.Joining.{joined, join}
use Rattle.segmentation.specs.Held.{segments_held}
use Rattle.segmentation.proofs.Holding.{held-length, held_at}
use Rattle.segmentation.specs.Around.{later, twice, starting_at, join_twice, join_round}
use Rattle.segmentation.specs.Finished.{RingCut}
use Rattle.rings.specs.Twice.{EachTo, Repeated}
use Rattle.segmentation.proofs.Kept.{chain-ends, chain-grows}
use Rattle.segmentation.proofs.Applied.{same-segment, held_same}
use Rattle.segmentation.proofs.Turned.{twice-length, twice-first, twice-later}

abbrev none : Segment
none = record { start = 0; peak = 0; end = 0 }

-- ---- the turn from number k on, moved to the front
module _ (s p : List ℕ) (n k : ℕ) (within : k ≤ n) (rooms : n + n < length s) (roomp : n + n ≤ length p) where
  abbrev separators_then : List ℕ
  separators_then = paste s 0 (drop k s) (k + n + 1 - k)

  abbrev peaks_then : List ℕ
  peaks_then = paste p 0 (drop k p) (k + n - k)

  front_at : (xs : List ℕ) (end i : ℕ) → k ≤ end → end ≤ length xs → i + k < end → get_or (paste xs 0 (drop k xs) (end - k)) i 0 ≡ get_or xs (k + i) 0
  front_at xs end i a b c =
      let z : 0 + k ≡ k = omega arith in
      let w : i + k ≡ k + i = omega arith in
      rw (z, w) at (shift-at xs 0 k end 0 (omega arith) b i (omega arith) c)

  pub turn-held : segments_held separators_then peaks_then 0 n ≡ take n (drop k (segments_held s p 0 (n + n)))
  turn-held =
      let all = segments_held s p 0 (n + n) in
      let l = held-length s p 0 (n + n) in
      let a = held-length separators_then peaks_then 0 n in
      let b : length (take n (drop k all)) ≡ n = length-take-le n (drop k all) (omega (arith, length-drop k all)) in
      ext_get_or none (segments_held separators_then peaks_then 0 n) (take n (drop k all)) (a ∙ sym b)
      (λ m i.
      let c : m < n = omega arith in
      let f : k + suc m ≡ suc (k + m) = omega arith in
      held_at separators_then peaks_then n m c
      ∙ same-segment _ _ _ _ _ _
      (front_at s (k + n + 1) m (omega arith) (omega arith) (omega arith))
      (front_at p (k + n) m (omega arith) (omega arith) (omega arith))
      (front_at s (k + n + 1) (suc m) (omega arith) (omega arith) (omega arith) ∙ ap (λ (x : ℕ). get_or s x 0) f)
      ∙ sym (get_or-take n (drop k all) m none c ∙ get_or-drop k all m none ∙ held_at s p (n + n) (k + m) (omega arith)))

-- ---- modes that stand again a turn later
pub held-twice : (s p s' p' : List ℕ) (n bins : ℕ) → Repeated s s' 1 n bins → Repeated p p' 0 n bins → get_or s n 0 ≡ get_or s 0 0 + bins
    → segments_held s' p' 0 (n + n) ≡ twice bins (segments_held s p 0 n)
held-twice s p s' p' n bins rs rp turn =
    let ss = segments_held s p 0 n in
    let l = held-length s p 0 n in
    let a = held-length s' p' 0 (n + n) in
    ext_get_or none (segments_held s' p' 0 (n + n)) (twice bins ss) (a ∙ sym (twice-length bins ss ∙ ap (λ (z : ℕ). z + z) l))
    (λ m i. by_order m n
    (λ u.
    held_at s' p' (n + n) m (omega arith)
    ∙ same-segment _ _ _ _ _ _ (rs.kept m (omega arith)) (rp.kept m (omega arith)) (rs.kept (suc m) (omega arith))
    ∙ sym (twice-first bins ss m (omega arith) ∙ held_at s p n m u))
    (λ u.
    let d = m - n in
    let e : m ≡ length ss + d = omega arith in
    held_at s' p' (n + n) m (omega arith)
    ∙ same-segment _ _ _ _ _ _ (start m d (omega arith) (omega arith)) (peak m d (omega arith) (omega arith)) (end m d (omega arith) (omega arith))
    ∙ sym (ap (λ (x : ℕ). segment_at (twice bins ss) x) e ∙ twice-later bins ss d (omega arith) ∙ ap (later bins) (held_at s p n d (omega arith)))))
  where
    start : (m d : ℕ) → m ≡ n + d → d < n → get_or s' m 0 ≡ get_or s d 0 + bins
    start m zero e h = let z : m ≡ n = omega arith in ap (λ (x : ℕ). get_or s' x 0) z ∙ rs.kept n (omega arith) ∙ turn
    start m (suc d) e h =
        let z : m ≡ 1 + n + d = omega arith in
        let w : 1 + d ≡ suc d = omega arith in
        ap (λ (x : ℕ). get_or s' x 0) z ∙ rs.again d (omega arith) ∙ ap (λ (x : ℕ). get_or s x 0 + bins) w

    peak : (m d : ℕ) → m ≡ n + d → d < n → get_or p' m 0 ≡ get_or p d 0 + bins
    peak m d e h =
        let z : m ≡ 0 + n + d = omega arith in
        let w : 0 + d ≡ d = omega arith in
        ap (λ (x : ℕ). get_or p' x 0) z ∙ rp.again d h ∙ ap (λ (x : ℕ). get_or p x 0 + bins) w

    end : (m d : ℕ) → m ≡ n + d → d < n → get_or s' (suc m) 0 ≡ get_or s (suc d) 0 + bins
    end m d e h =
        let z : suc m ≡ 1 + n + d = omega arith in
        let w : 1 + d ≡ suc d = omega arith in
        ap (λ (x : ℕ). get_or s' x 0) z ∙ rs.again d h ∙ ap (λ (x : ℕ). get_or s x 0 + bins) w

-- ---- a run joined in the turn that was moved to the front
-- a join goes by the run and by which peak is kept, not by the cost
join-same : (ss : List Segment) (m : Join) (i : ℕ) (j : Join) → m.first ≡ i → m.len ≡ j.len → m.rise ≡ j.rise → join ss m ≡ join ss (starting_at i j)
unfolding join joined
join-same ss m i j a b c = rw (a, b, c) refl

pub join-turn : (s p t q : List ℕ) (n k : ℕ) (j m : Join) → k ≤ n → n + n < length s → n + n ≤ length p
    → t ≡ paste s 0 (drop k s) (k + n + 1 - k) → q ≡ paste p 0 (drop k p) (k + n - k) → k ≡ j.first + j.len - n
    → m.first ≡ j.first - k → m.len ≡ j.len → m.rise ≡ j.rise
    → (ss : List Segment) → ss ≡ join (segments_held t q 0 n) m → ss ≡ join_twice (segments_held s p 0 (n + n)) n j
unfolding join_twice
join-turn s p t q n k j m a b c et eq ek mf ml mr ss held =
    held
    ∙ join-same (segments_held t q 0 n) m (j.first - k) j mf ml mr
    ∙ ap (λ (xs : List ℕ). join (segments_held xs q 0 n) (starting_at (j.first - k) j)) et
    ∙ ap (λ (xs : List ℕ). join (segments_held (paste s 0 (drop k s) (k + n + 1 - k)) xs 0 n) (starting_at (j.first - k) j)) eq
    ∙ ap (λ (xs : List Segment). join xs (starting_at (j.first - k) j)) (turn-held s p n k a b c)
    ∙ ap (λ (z : ℕ). join (take n (drop z (segments_held s p 0 (n + n)))) (starting_at (j.first - z) j)) ek

pub joined-round : (all : List Segment) (n bins : ℕ) (ss : List Segment) (j : Join) → all ≡ twice bins ss → n ≡ length ss → join_twice all n j ≡ join_round bins ss j
unfolding join_round
joined-round all n bins ss j held count = rw (held, count) refl

-- ---- the modes of a ring, as two lists hold them
module _ (s p : List ℕ) (n bins : ℕ) (cut : RingCut bins (segments_held s p 0 n)) where
  count : length (segments_held s p 0 n) ≡ n
  count = held-length s p 0 n

  -- the last separator is the first one, a turn later
  pub turn_end : get_or s n 0 ≡ get_or s 0 0 + bins
  turn_end =
      let some : 0 < n = omega (arith, cut.non_empty, count) in
      let last = length (segments_held s p 0 n) - 1 in
      let e : last ≡ n - 1 = omega (arith, count) in
      let z : suc (n - 1) ≡ n = omega arith in
      sym (ap (λ (x : Segment). x.end) (held_at s p n (n - 1) (omega arith)) ∙ ap (λ (k : ℕ). get_or s k 0) z)
      ∙ ap (λ (k : ℕ). (segment_at (segments_held s p 0 n) k).end) (sym e) ∙ cut.once_round
      ∙ ap (λ (x : Segment). x.start + bins) (held_at s p n 0 some)

  end-most : (k : ℕ) → k < n → (segment_at (segments_held s p 0 n) k).end ≤ bins + bins
  end-most k l =
      let ss = segments_held s p 0 n in
      let some = cut.non_empty in
      omega (arith, count, chain-ends ss cut.chain k (length ss - 1) (omega (arith, count)) (omega arith), cut.once_round, cut.first_turn 0 some)

  pub separators-most : EachTo (bins + bins) s 1 n
  separators-most k l =
      let z : 1 + k ≡ suc k = omega arith in
      let e = ap (λ (x : Segment). x.end) (held_at s p n k l) in
      omega (arith, end-most k l, e, ap (λ (i : ℕ). get_or s i 0) z)

  pub peaks-most : EachTo (bins + bins) p 0 n
  peaks-most k l =
      let z : 0 + k ≡ k = omega arith in
      let e = ap (λ (x : Segment). x.peak) (held_at s p n k l) in
      omega (arith, end-most k l, cut.chain.peak_inside k (omega (arith, count)), e, ap (λ (i : ℕ). get_or p i 0) z)

  -- a ring has no more modes than bins
  pub ring-count : n ≤ bins
  ring-count =
      let ss = segments_held s p 0 n in
      let some = cut.non_empty in
      let last : length ss - 1 < length ss = omega arith in
      omega (arith, count, chain-grows ss cut.chain (length ss - 1) last, cut.first_turn (length ss - 1) last)

-- what stands again leaves the modes as they are held
pub held_kept : (s p s' p' : List ℕ) (n bins : ℕ) → Repeated s s' 1 n bins → Repeated p p' 0 n bins → segments_held s' p' 0 n ≡ segments_held s p 0 n
held_kept s p s' p' n bins rs rp = held_same s' p' s p 0 0 n (λ m l. rs.kept (0 + m) (omega arith)) (λ m l. rp.kept (0 + m) (omega arith))
