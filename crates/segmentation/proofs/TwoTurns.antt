-- What is read round a ring: two turns from the opening on. A stretch a turn later is the same stretch; the opened line is its beginning. Assumes nothing.
use Prim.Native.Nat.{ℕ, suc, ◌+◌, ◌-◌, ◌%◌, ◌≤◌, ◌<◌}
use mathlib.Core.Path.{◌≡◌, sym, ap, ap₂, ◌∙◌}
use mathlib.Core.List.{List, [], ◌∷◌, ◌++◌}
use native.Mathlib.Omega.{arith}
use lib.ListN.{length, take, drop, set, length-append, length-drop, get_or-append}
use lib.Seq.{length-take-le, get_or-append-add, get_or-take, get_or-drop, take-append-le, drop-append-le, take-append-add, drop-append-add, take-add, take-suc, ext_get_or}
use Rattle.lists.specs.Lists.{total, part, over}
use Rattle.lists.proofs.Cases.{by_order}
use Rattle.lists.proofs.Sums.{total-append, total-split, total-take-le}
use Rattle.lists.proofs.Rotations.{turned-length, turned-at, turned-total}
use Rattle.lists.proofs.Buffers.{over-take}
use Rattle.segmentation.specs.Segments.{bin_at}
use Rattle.segmentation.specs.Ring.{opening, opened, ring_bin}
use Rattle.segmentation.proofs.RingPlaces.{opening-in, ring-length, ring-bins, ring-later}
use Rattle.segmentation.specs.Ring.{from_opening, two_turns}

-- ---- one turn
pub opening-length : (h : List ℕ) → 1 ≤ length h → length (from_opening h) ≡ length h
unfolding from_opening
opening-length h n = turned-length h (opening h) (omega (arith, opening-in h n))

pub opening-total : (h : List ℕ) → total (from_opening h) ≡ total h
unfolding from_opening
opening-total h = turned-total h (opening h)

pub opening-bins : (h : List ℕ) → 1 ≤ length h → (i : ℕ) → i < length h → bin_at (from_opening h) i ≡ bin_at h (ring_bin h i)
unfolding from_opening ring_bin
opening-bins h n i l = turned-at h (opening h) (omega (arith, opening-in h n)) i 0 l

-- ---- two turns
pub turns-length : (h : List ℕ) → 1 ≤ length h → length (two_turns h) ≡ length h + length h
unfolding two_turns
turns-length h n = omega (arith, length-append (from_opening h) (from_opening h), opening-length h n)

pub turns-bins : (h : List ℕ) → 1 ≤ length h → (i : ℕ) → i < length h + length h → bin_at (two_turns h) i ≡ bin_at h (ring_bin h i)
unfolding two_turns
turns-bins h n i l = by_order i (length h) before after
  where
    k : length (from_opening h) ≡ length h
    k = opening-length h n

    before : i < length h → bin_at (from_opening h ++ from_opening h) i ≡ bin_at h (ring_bin h i)
    before u = get_or-append (from_opening h) (from_opening h) 0 i (omega (arith, k)) ∙ opening-bins h n i u

    after : length h ≤ i → bin_at (from_opening h ++ from_opening h) i ≡ bin_at h (ring_bin h i)
    after u =
        let j = i - length h in
        let e : i ≡ length (from_opening h) + j = omega (arith, k) in
        let f : j + length h ≡ i = omega arith in
        ap (bin_at (from_opening h ++ from_opening h)) e ∙ get_or-append-add (from_opening h) (from_opening h) j 0 ∙ opening-bins h n j (omega arith)
        ∙ ap (bin_at h) (sym (ring-later h n j) ∙ ap (ring_bin h) f)

-- the opened line is the beginning of the two turns
pub opened-turns : (h : List ℕ) → 1 ≤ length h → opened h ≡ take (suc (length h)) (two_turns h)
opened-turns h n =
    let a = ring-length h n in
    let b : length (take (suc (length h)) (two_turns h)) ≡ suc (length h) = length-take-le (suc (length h)) (two_turns h) (omega (arith, turns-length h n)) in
    ext_get_or 0 (opened h) (take (suc (length h)) (two_turns h)) (a ∙ sym b)
    (λ i l. ring-bins h n i (omega arith) ∙ sym (turns-bins h n i (omega arith)) ∙ sym (get_or-take (suc (length h)) (two_turns h) i 0 (omega arith)))

-- ---- stretches
part-take : (k : ℕ) (xs : List ℕ) (i j : ℕ) → i ≤ j → j < k → k ≤ length xs → part i j (take k xs) ≡ part i j xs
unfolding part
part-take k xs i j l m r =
    let a : length (take k xs) ≡ k = length-take-le k xs r in
    let da : length (drop i (take k xs)) ≡ k - i = length-drop i (take k xs) ∙ ap (λ (z : ℕ). z - i) a in
    let db : length (drop i xs) ≡ length xs - i = length-drop i xs in
    let u : length (take (suc j - i) (drop i (take k xs))) ≡ suc j - i = length-take-le (suc j - i) (drop i (take k xs)) (omega arith) in
    let v : length (take (suc j - i) (drop i xs)) ≡ suc j - i = length-take-le (suc j - i) (drop i xs) (omega arith) in
    ext_get_or 0 (take (suc j - i) (drop i (take k xs))) (take (suc j - i) (drop i xs)) (u ∙ sym v)
    (λ p q.
    get_or-take (suc j - i) (drop i (take k xs)) p 0 (omega arith) ∙ get_or-drop i (take k xs) p 0 ∙ get_or-take k xs (i + p) 0 (omega arith)
    ∙ sym (get_or-take (suc j - i) (drop i xs) p 0 (omega arith) ∙ get_or-drop i xs p 0))

-- on the opened line, what is read round is what the line has
pub opened-part : (h : List ℕ) → 1 ≤ length h → (i j : ℕ) → i ≤ j → j ≤ length h → part i j (opened h) ≡ part i j (two_turns h)
opened-part h n i j l m =
    ap (part i j) (opened-turns h n) ∙ part-take (suc (length h)) (two_turns h) i j l (omega arith) (omega (arith, turns-length h n))

-- a turn later
pub part-later : (r : List ℕ) (i j : ℕ) → i ≤ j → j < length r → part (i + length r) (j + length r) (r ++ r) ≡ part i j (r ++ r)
unfolding part
part-later r i j l m =
    let e : i + length r ≡ length r + i = omega arith in
    let f : suc (j + length r) - (i + length r) ≡ suc j - i = omega arith in
    let d : length (drop i r) ≡ length r - i = length-drop i r in
    ap₂ (λ (a : ℕ) (xs : List ℕ). take a xs) f (ap (λ (k : ℕ). drop k (r ++ r)) e ∙ drop-append-add r r i)
    ∙ sym (take-append-le (suc j - i) (drop i r) r (omega arith))
    ∙ ap (take (suc j - i)) (sym (drop-append-le i r r (omega arith)))

-- ---- how much a stretch holds: no more than the ring where it reads no bin twice; a full turn holds its first bin once more
pub part-once : (r : List ℕ) (i j : ℕ) → i ≤ j → j < i + length r → j < length r + length r → total (part i j (r ++ r)) ≤ total r
unfolding part
part-once r i j l m k = by_order i (length r) in_first in_second
  where
    in_first : i < length r → total (part i j (r ++ r)) ≤ total r
    in_first u =
        let d : length (drop i r) ≡ length r - i = length-drop i r in
        let a = drop-append-le i r r (omega arith) in
        by_order (suc j - i) (length (drop i r))
        (λ v.
        let t = ap total (ap (take (suc j - i)) a ∙ take-append-le (suc j - i) (drop i r) r (omega arith)) in
        omega (arith, t, total-take-le (suc j - i) (drop i r), total-split i r))
        (λ v.
        let n = suc j - i - length (drop i r) in
        let e : suc j - i ≡ length (drop i r) + n = omega arith in
        let q : i ≡ n + (i - n) = omega (arith, d) in
        let t = ap total (ap (take (suc j - i)) a ∙ ap (λ (z : ℕ). take z (drop i r ++ r)) e ∙ take-append-add (drop i r) r n) in
        let s = ap total (ap (λ (z : ℕ). take z r) q ∙ take-add n (i - n) r) in
        omega (arith, t, s, total-append (drop i r) (take n r), total-append (take n r) (take (i - n) (drop n r)), total-split i r))

    in_second : length r ≤ i → total (part i j (r ++ r)) ≤ total r
    in_second u =
        let p = i - length r in
        let e : i ≡ length r + p = omega arith in
        let t = ap total (ap (take (suc j - i)) (ap (λ (z : ℕ). drop z (r ++ r)) e ∙ drop-append-add r r p)) in
        omega (arith, t, total-take-le (suc j - i) (drop p r), total-split p r)

pub part-turn : (r : List ℕ) (i : ℕ) → i < length r → total (part i (i + length r) (r ++ r)) ≡ total r + bin_at r i
unfolding part
part-turn r i u =
    let d : length (drop i r) ≡ length r - i = length-drop i r in
    let e : suc (i + length r) - i ≡ length (drop i r) + suc i = omega (arith, d) in
    let t = ap total (ap₂ (λ (a : ℕ) (xs : List ℕ). take a xs) e (drop-append-le i r r (omega arith)) ∙ take-append-add (drop i r) r (suc i)) in
    omega (arith, t, total-append (drop i r) (take (suc i) r), ap total (take-suc r i 0 u), total-append (take i r) (bin_at r i ∷ []), total-split i r)

-- the two turns in the first places of a buffer, one bin more
pub turns_more : (h buffer : List ℕ) (i : ℕ) → 1 ≤ length h → i < length h + length h → i < length buffer
    → set (over (take i (two_turns h)) buffer) i (bin_at h ((opening h + i) % length h)) ≡ over (take (i + 1) (two_turns h)) buffer
unfolding ring_bin
turns_more h buffer i n l k =
    ap (λ (v : ℕ). set (over (take i (two_turns h)) buffer) i v) (sym (turns-bins h n i l))
    ∙ over-take (two_turns h) buffer 0 i (omega (arith, turns-length h n)) k
