-- A join of segments that two lists hold, and what is left after the joins. Assumes nothing.
use Prim.Native.Nat.{ℕ, zero, suc, ◌+◌, ◌-◌, ◌≤◌, ◌<◌}
use mathlib.Core.Path.{◌≡◌, refl, sym, ap, ◌∙◌}
use mathlib.Core.Bool.{Bool, true, false, cond}
use mathlib.Core.List.{List, ◌∷◌, ◌++◌}
use mathlib.Core.Option.{some}
use native.Mathlib.Nat.{add-zero}
use native.Mathlib.Numerals.{add-one}
use native.Mathlib.Omega.{arith}
use lib.ListN.{length, take, drop, get_or}
use lib.Seq.{paste}
use Rattle.lists.proofs.Cases.{by_cond}
use Rattle.lists.proofs.Shifts.{shift-before, shift-at}
use Rattle.verdict.specs.Test.{Closeness}
use Rattle.segmentation.specs.Segments.{Segment, segment_at, first_segments}
use Rattle.segmentation.specs.Joining.{line_reader, Join, joined, join, Joins, line_joins, join_all, line_modes}
use Rattle.segmentation.specs.Around.{ring_joins}
use Rattle.segmentation.specs.Ring.{opened, round_reader, ring_modes}
use Rattle.segmentation.specs.Held.{segments_held}
use Rattle.segmentation.specs.Finished.{Cut}
use Rattle.segmentation.proofs.Kept.{chain-grows}
use Rattle.segmentation.proofs.Holding.{held-length, held_at}
use Rattle.segmentation.proofs.Settled.{Shortens, joins-step}

-- segment number i of those held
abbrev held_one : List ℕ → List ℕ → ℕ → Segment
held_one s p i = record { start = get_or s i 0; peak = get_or p i 0; end = get_or s (suc i) 0 }

pub same-segment : (a b c x y z : ℕ) → a ≡ x → b ≡ y → c ≡ z → ◌≡◌ {A = Segment} (record { start = a; peak = b; end = c }) (record { start = x; peak = y; end = z })
same-segment a b c x y z p q r = rw (p, q, r)

same-pieces : (a b : List Segment) (s t : Segment) (c d : List Segment) → a ≡ b → s ≡ t → c ≡ d → a ++ s ∷ c ≡ b ++ t ∷ d
same-pieces a b s t c d p q r = rw (p, q, r)

-- ---- the first m of the segments held, and those behind them
held-take : (s p : List ℕ) (i n m : ℕ) → m ≤ n → take m (segments_held s p i n) ≡ segments_held s p i m
unfolding segments_held
held-take s p i n zero h = refl
held-take s p i zero (suc m) h = absurd (omega arith)
held-take s p i (suc n) (suc m) h = ap (λ z. held_one s p i ∷ z) (held-take s p (suc i) n m (omega arith))

held-drop : (s p : List ℕ) (i n m : ℕ) → m ≤ n → drop m (segments_held s p i n) ≡ segments_held s p (i + m) (n - m)
unfolding segments_held
held-drop s p i n zero h =
    let e : i + zero ≡ i = omega arith in
    let f : n - zero ≡ n = omega arith in
    rw (e, f)
held-drop s p i zero (suc m) h = absurd (omega arith)
held-drop s p i (suc n) (suc m) h =
    let e : i + suc m ≡ suc i + m = omega arith in
    let f : suc n - suc m ≡ n - m = omega arith in
    rw (e, f) (held-drop s p (suc i) n m (omega arith))

held-split : (s p : List ℕ) (i m n : ℕ) → segments_held s p i (m + suc n) ≡ segments_held s p i m ++ held_one s p (i + m) ∷ segments_held s p (suc (i + m)) n
unfolding segments_held
held-split s p i zero n =
    let e : i + zero ≡ i = omega arith in
    let f : zero + suc n ≡ suc n = omega arith in
    rw (e, f)
held-split s p i (suc m) n =
    let e : i + suc m ≡ suc i + m = omega arith in
    let f : suc m + suc n ≡ suc (m + suc n) = omega arith in
    rw (e, f) (ap (λ z. held_one s p i ∷ z) (held-split s p (suc i) m n))

-- lists that agree from number i on and from number k on hold the same segments there
one_on : (i m : ℕ) → suc i + m ≡ i + suc m
one_on i m = omega arith

pub held_same : (s p t q : List ℕ) (i k n : ℕ) → ((m : ℕ) → m ≤ n → get_or s (i + m) 0 ≡ get_or t (k + m) 0) → ((m : ℕ) → m < n → get_or p (i + m) 0 ≡ get_or q (k + m) 0)
    → segments_held s p i n ≡ segments_held t q k n
unfolding segments_held
held_same s p t q i k zero f g = refl
held_same s p t q i k (suc n) f g =
    let a : get_or s i 0 ≡ get_or t k 0 = rw (add-zero i, add-zero k) at (f 0 (omega arith)) in
    let b : get_or p i 0 ≡ get_or q k 0 = rw (add-zero i, add-zero k) at (g 0 (omega arith)) in
    let d : get_or s (suc i) 0 ≡ get_or t (suc k) 0 = rw (add-one i, add-one k) at (f 1 (omega arith)) in
    rw (a, b, d) (ap (λ z. held_one t q k ∷ z)
    (held_same s p t q (suc i) (suc k) n
    (λ m h. rw (one_on i m, one_on k m) (f (suc m) (omega arith)))
    (λ m h. rw (one_on i m, one_on k m) (g (suc m) (omega arith)))))

-- the place that the kept peak moves down to: a rise keeps the last one, a fall the first
pub kept_from : (b : Bool) (i : ℕ) → (i ≤ cond b i (i + 1)) × (cond b i (i + 1) ≤ i + 1)
kept_from true i = (omega arith, omega arith)
kept_from false i = (omega arith, omega arith)

module _ (s p : List ℕ) (n : ℕ) (j : Join) (to : ℕ) where
  abbrev separators_then : List ℕ
  separators_then = paste s (j.first + 1) (drop (j.first + 1 + (j.len - 1)) s) (n + 1 - (j.first + 1 + (j.len - 1)))

  abbrev peaks_then : List ℕ
  peaks_then = paste p to (drop (to + (j.len - 1)) p) (n - (to + (j.len - 1)))

  module _ (two : 2 ≤ j.len) (within : j.first + j.len ≤ n) (rooms : n < length s) (roomp : n ≤ length p) (kept : to ≡ cond j.rise j.first (j.first + 1)) where
    to_low : j.first ≤ to
    to_low = rw kept (kept_from j.rise j.first).0

    to_high : to ≤ j.first + 1
    to_high = rw kept (kept_from j.rise j.first).1

    separator-before : (i : ℕ) → i ≤ j.first → get_or separators_then i 0 ≡ get_or s i 0
    separator-before i h = shift-before s (j.first + 1) (j.len - 1) (n + 1) 0 (omega arith) (omega arith) i (omega arith)

    separator-behind : (i : ℕ) → j.first < i → i + (j.len - 1) ≤ n → get_or separators_then i 0 ≡ get_or s (i + (j.len - 1)) 0
    separator-behind i h k = shift-at s (j.first + 1) (j.len - 1) (n + 1) 0 (omega arith) (omega arith) i (omega arith) (omega arith)

    peak-before : (i : ℕ) → i < to → get_or peaks_then i 0 ≡ get_or p i 0
    peak-before i h = let l = to_high in shift-before p to (j.len - 1) n 0 (omega arith) roomp i h

    peak-behind : (i : ℕ) → to ≤ i → i + (j.len - 1) < n → get_or peaks_then i 0 ≡ get_or p (i + (j.len - 1)) 0
    peak-behind i h k = let l = to_high in shift-at p to (j.len - 1) n 0 (omega arith) roomp i h k

    -- the separators and the peak of the segment that the run becomes
    joined-held : held_one separators_then peaks_then j.first ≡ joined (segments_held s p 0 n) j
    unfolding joined
    joined-held =
        let ss : List Segment = segments_held s p 0 n in
        let x = held_at s p n j.first (omega arith) in
        let y = held_at s p n (j.first + j.len - 1) (omega arith) in
        let f : j.first + (j.len - 1) ≡ j.first + j.len - 1 = omega arith in
        let g : suc j.first + (j.len - 1) ≡ suc (j.first + j.len - 1) = omega arith in
        same-segment _ _ _ _ _ _
        (separator-before j.first (omega arith) ∙ sym (ap (λ (z : Segment). z.start) x))
        (by_cond (λ v. get_or peaks_then j.first 0 ≡ v) j.rise (segment_at ss (j.first + j.len - 1)).peak (segment_at ss j.first).peak
        (λ t. let k : to ≡ j.first = kept ∙ ap (λ b. cond b j.first (j.first + 1)) t in
        peak-behind j.first (omega arith) (omega arith) ∙ ap (λ (i : ℕ). get_or p i 0) f ∙ sym (ap (λ (z : Segment). z.peak) y))
        (λ t. let k : to ≡ j.first + 1 = kept ∙ ap (λ b. cond b j.first (j.first + 1)) t in
        peak-before j.first (omega arith) ∙ sym (ap (λ (z : Segment). z.peak) x)))
        (separator-behind (suc j.first) (omega arith) (omega arith) ∙ ap (λ (i : ℕ). get_or s i 0) g ∙ sym (ap (λ (z : Segment). z.end) y))

    then-held : segments_held separators_then peaks_then 0 (n - (j.len - 1)) ≡ join (segments_held s p 0 n) j
    unfolding join
    then-held =
        let r : ℕ = n - (j.first + j.len) in
        let count : n - (j.len - 1) ≡ j.first + suc r = omega arith in
        let start : 0 + j.first ≡ j.first = omega arith in
        let low = to_low in
        let high = to_high in
        ap (segments_held separators_then peaks_then 0) count
        ∙ held-split separators_then peaks_then 0 j.first r
        ∙ same-pieces _ _ _ _ _ _
        (held_same separators_then peaks_then s p 0 0 j.first (λ m h. separator-before (0 + m) (omega arith)) (λ m h. peak-before (0 + m) (omega arith))
        ∙ sym (held-take s p 0 n j.first (omega arith)))
        (ap (held_one separators_then peaks_then) start ∙ joined-held)
        (held_same separators_then peaks_then s p (suc (0 + j.first)) (0 + (j.first + j.len)) r
        (λ m h. separator-behind (suc (0 + j.first) + m) (omega arith) (omega arith) ∙ ap (λ (i : ℕ). get_or s i 0) (behind m))
        (λ m h. peak-behind (suc (0 + j.first) + m) (omega arith) (omega arith) ∙ ap (λ (i : ℕ). get_or p i 0) (behind m))
        ∙ sym (held-drop s p 0 n (j.first + j.len) within))
      where
        behind : (m : ℕ) → suc (0 + j.first) + m + (j.len - 1) ≡ 0 + (j.first + j.len) + m
        behind m = omega arith

    pub join-held : (t q : List ℕ) → t ≡ separators_then → q ≡ peaks_then → segments_held t q 0 (n - (j.len - 1)) ≡ join (segments_held s p 0 n) j
    join-held t q u v = ap (λ z. segments_held z q 0 (n - (j.len - 1))) u ∙ ap (λ z. segments_held separators_then z 0 (n - (j.len - 1))) v ∙ then-held

-- ---- one join after another
-- with r segments held after a join of n, what is left to do is the same
pub held-step : (w : Joins) → Shortens w → (s p t q : List ℕ) (n r : ℕ) (j : Join) → w.next (segments_held s p 0 n) ≡ some j
    → segments_held t q 0 r ≡ w.after (segments_held s p 0 n) j → join_all r w (segments_held t q 0 r) ≡ join_all n w (segments_held s p 0 n)
held-step w shortens s p t q n r j next done =
    let ss : List Segment = segments_held s p 0 n in
    let l : r ≡ length (w.after ss j) = sym (held-length t q 0 r) ∙ ap length done in
    ap (join_all r w) done ∙ ap (λ (k : ℕ). join_all k w (w.after ss j)) l ∙ joins-step w shortens ss j next
    ∙ ap (λ (k : ℕ). join_all k w ss) (held-length s p 0 n)

-- joining segments that are held is joining those segments
joins-held : (w : Joins) (s p : List ℕ) (n : ℕ) (ss : List Segment) → segments_held s p 0 n ≡ ss → join_all n w (segments_held s p 0 n) ≡ join_all (length ss) w ss
joins-held w s p n ss q = ap (join_all n w) q ∙ ap (λ (k : ℕ). join_all k w ss) (sym (held-length s p 0 n) ∙ ap length q)

pub line-held : (e : Closeness) (h s p : List ℕ) (n : ℕ) → segments_held s p 0 n ≡ first_segments h
    → join_all n (line_joins e (line_reader h)) (segments_held s p 0 n) ≡ line_modes e h
unfolding line_modes
line-held e h s p n q = joins-held (line_joins e (line_reader h)) s p n (first_segments h) q

pub ring-held : (e : Closeness) (h s p : List ℕ) (n : ℕ) → segments_held s p 0 n ≡ line_modes e (opened h)
    → join_all n (ring_joins e (round_reader h) (length h)) (segments_held s p 0 n) ≡ ring_modes e h
unfolding ring_modes
ring-held e h s p n q = joins-held (ring_joins e (round_reader h) (length h)) s p n (line_modes e (opened h)) q

-- ---- separators rise from bin 0 to the last bin, so a line has more bins than segments
pub cut-count : {bins : ℕ} {ss : List Segment} → Cut bins ss → length ss < bins
cut-count {bins} {ss} c =
    let some = c.non_empty in
    let last = length ss - 1 in
    omega (arith, chain-grows ss c.chain last (omega arith), c.chain.ascending last (omega arith), c.to_last_bin)
