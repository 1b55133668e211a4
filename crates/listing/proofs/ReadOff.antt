-- The bin where a mode starts is the nearest listed one, counted down and round from any bin of the mode: so the list says which mode a bin lies in. Assumes nothing.
use Prim.Native.Nat.{ℕ, suc, ◌+◌, ◌-◌, ◌%◌, ◌≤◌, ◌<◌}
use mathlib.Core.Path.{◌≡◌, sym, ap, ◌∙◌}
use mathlib.Core.Bool.{true}
use mathlib.Core.Logic.{⊎_elim}
use mathlib.Core.List.{List}
use native.Mathlib.Omega.{arith}
use native.Mathlib.Nat.{mod-add-mod}
use lib.ListN.{length, length-map}
use Rattle.lists.proofs.Cases.{by_order}
use Rattle.lists.proofs.Connectives.{either_true}
use Rattle.lists.proofs.Places.{map_at}
use Rattle.lists.proofs.Rotations.{mod_below, mod-above}
use Rattle.lists.proofs.Risings.{rising-up, same_at}
use Rattle.verdict.specs.Test.{Closeness}
use Rattle.segmentation.specs.Segments.{Segment, segment_at, bin_at}
use Rattle.segmentation.specs.Ring.{opening, ring_bin, line_place, ring_modes, ring_starts, in_arc, in_round, in_ring_mode}
use Rattle.segmentation.proofs.Kept.{chain-starts, chain-ends}
use Rattle.segmentation.proofs.RingPlaces.{ring_in, ring-later, place-bin}
use Rattle.segmentation.proofs.RoundOne.{arc-ends}
use Rattle.segmentation.proofs.RingModes.{ring_cut, ring-one-mode}
use Rattle.listing.specs.Listing.{ring_separators, InModeFrom}
use Rattle.listing.proofs.Listed.{listed-starts, listed-rises}

-- of n bins, b is d bins up from y: without going round if y is at most b, else round past the last one
mod-up : (n y d b : ℕ) → y < n → d < n → (y + d) % n ≡ b → (y ≤ b → y + d ≡ b) × (b < y → y + d ≡ b + n)
mod-up n y d b k l q =
    by_order (y + d) n
    (λ a. let z = mod_below (y + d) n a in (λ c. omega arith, λ c. absurd (omega arith)))
    (λ a. let z = mod-above (y + d) n a (omega arith) in (λ c. absurd (omega arith), λ c. omega arith))

-- counted down from bin b, and round past bin 0, bin y comes no sooner than bin x
record NoNearer (b x y : ℕ) : Type 0 where
  up_to : y ≤ b → (y ≤ x) × (x ≤ b)
  past : b < x → b < y → y ≤ x

module _ (e : Closeness) (h : List ℕ) (two : 2 ≤ length h) where
  abbrev mode : ℕ → Segment
  mode = segment_at (ring_modes e h)

  abbrev starts : List ℕ
  starts = ring_starts e h

  abbrev list : List ℕ
  list = ring_separators e h

  -- ---- d places on is d bins up, round the ring
  bin-up : (i d : ℕ) → (ring_bin h i + d) % length h ≡ ring_bin h (i + d)
  unfolding ring_bin
  bin-up i d =
      let z : opening h + i + d ≡ opening h + (i + d) = omega arith in
      mod-add-mod (opening h + i) (length h) d ∙ ap (λ (j : ℕ). j % length h) z

  -- ---- where the modes start
  pub starts-count : length starts ≡ length (ring_modes e h)
  unfolding ring_starts
  starts-count = length-map (ring_modes e h) (λ (s : Segment). ring_bin h s.start)

  pub start-bin : (m : ℕ) → m < length (ring_modes e h) → bin_at starts m ≡ ring_bin h (mode m).start
  unfolding ring_starts
  start-bin m l = map_at (λ (s : Segment). ring_bin h s.start) (ring_modes e h) m (record { start = 0; peak = 0; end = 0 }) 0 l

  start-listed : (m : ℕ) → m < length (ring_modes e h) → (j : ℕ) × (j < length list) × (bin_at list j ≡ bin_at starts m)
  start-listed m k = same_at starts list (λ b. sym (listed-starts e h two b)) m (omega (arith, starts-count))

  -- ---- place r, of the first turn or of the second, lies in mode m
  module _ (m r : ℕ) (k : m < length (ring_modes e h)) (arc : in_arc (mode m) r ≡ true) where
    -- from the start of any mode up to r it is at least as far as from that of mode m, and less than a turn
    start-farther : (j : ℕ) → j < length (ring_modes e h) → (d : ℕ) × (r - (mode m).start ≤ d) × (d < length h) × (ring_bin h ((mode j).start + d) ≡ ring_bin h r)
    start-farther j l =
        let ss = ring_modes e h in
        let c = ring_cut h two e in
        let from = (arc-ends (mode m) r arc).0 in
        let to = (arc-ends (mode m) r arc).1 in
        let s = (mode j).start in
        let turn = c.first_turn j l in
        by_order m j
        (λ a.
        let past : r < s = omega (arith, c.chain.adjacent m (omega arith), chain-starts ss c.chain (suc m) j a l) in
        let z : s + (r + length h - s) ≡ r + length h = omega arith in
        (r + length h - s, omega arith, omega arith, ap (ring_bin h) z ∙ ring-later h (omega arith) r))
        (λ a.
        let up = chain-starts ss c.chain j m a k in
        let once = chain-ends ss c.chain m (length ss - 1) (omega arith) (omega arith) in
        let z : s + (r - s) ≡ r = omega arith in
        (r - s, omega arith, omega (arith, c.once_round, chain-starts ss c.chain 0 j (omega arith) l), ap (ring_bin h) z))

    start-nearest : (j : ℕ) → j < length (ring_modes e h) → NoNearer (ring_bin h r) (ring_bin h (mode m).start) (ring_bin h (mode j).start)
    start-nearest j l =
        let f = start-farther j l in
        let d = f.0 in
        let less : r - (mode m).start ≤ d = f.1 in
        let turn : d < length h = f.2 in
        let z : (mode m).start + (r - (mode m).start) ≡ r = omega (arith, (arc-ends (mode m) r arc).0) in
        let within = ring_in h (omega arith) (mode m).start in
        let here = mod-up (length h) _ (r - (mode m).start) (ring_bin h r) within (omega arith) (bin-up (mode m).start (r - (mode m).start) ∙ ap (ring_bin h) z) in
        let there = mod-up (length h) _ d (ring_bin h r) (ring_in h (omega arith) (mode j).start) turn (bin-up (mode j).start d ∙ f.3) in
        record {
          up_to = λ low.
              by_order (ring_bin h r) (ring_bin h (mode m).start)
              (λ a. absurd (omega (arith, here.1 a, there.0 low)))
              (λ a. (omega (arith, here.0 a, there.0 low), a));
          past = λ a c. omega (arith, here.1 a, there.1 c);
        }

  -- ---- bin b lies in mode m
  module _ (b m : ℕ) (k : m < length (ring_modes e h)) (t : in_ring_mode e h m b ≡ true) where
    lies_at : b < length h → (r : ℕ) × (in_arc (mode m) r ≡ true) × (ring_bin h r ≡ b)
    unfolding in_ring_mode in_round
    lies_at l =
        let p = line_place h b in
        let q = place-bin h (omega arith) b l in
        ⊎_elim (λ a. (p, a, q)) (λ a. (p + length h, a, ring-later h (omega arith) p ∙ q)) (either_true (in_arc (mode m) p) (in_arc (mode m) (p + length h)) t)

    none-nearer : (i : ℕ) → i < length list → b < length h → NoNearer b (bin_at starts m) (bin_at list i)
    none-nearer i l below =
        let r = lies_at below in
        let s = same_at list starts (listed-starts e h two) i l in
        let inside : s.0 < length (ring_modes e h) = omega (arith, starts-count, s.1) in
        rw (sym r.2, start-bin m k, sym s.2, start-bin s.0 inside) (start-nearest m r.0 k r.1 s.0 inside)

  up : (i j : ℕ) → i ≤ j → j < length list → bin_at list i ≤ bin_at list j
  up = rising-up list (listed-rises e h two)

  -- the mode of a bin starts where it is said to, if every mode that has the bin does
  mode-from : (b s : ℕ) → ((m : ℕ) → m < length (ring_modes e h) → in_ring_mode e h m b ≡ true → bin_at starts m ≡ s) → InModeFrom e h s b
  mode-from b s f = let one = ring-one-mode h two e b in (one.number, one.in_range, one.passes, f one.number one.in_range one.passes)

  pub read_between : (i b : ℕ) → i < length list → bin_at list i ≤ b → b < length h → (suc i < length list → b < bin_at list (suc i)) → InModeFrom e h (bin_at list i) b
  read_between i b l low below next = mode-from b (bin_at list i) (λ m k t.
      let s = start-listed m k in
      let j = s.0 in
      let near = (none-nearer b m k t i l below).up_to low in
      by_order i j
      (λ a. absurd (omega (arith, s.2, near.1, next (omega (arith, s.1)), up (suc i) j a s.1)))
      (λ a. omega (arith, s.2, near.0, up j i a l)))

  pub read-before : (b : ℕ) → b < bin_at list 0 → InModeFrom e h (bin_at list (length list - 1)) b
  read-before b low = mode-from b (bin_at list (length list - 1)) (λ m k t.
      let s = start-listed m k in
      let j = s.0 in
      let inside : j < length list = s.1 in
      let last = length list - 1 in
      let above : b < bin_at starts m = omega (arith, s.2, up 0 j (omega arith) inside) in
      let below : b < length h = omega (arith, start-bin m k, ring_in h (omega arith) (mode m).start) in
      let past : b < bin_at list last = omega (arith, up 0 last (omega arith) (omega arith)) in
      omega (arith, s.2, up j last (omega arith) (omega arith), (none-nearer b m k t last (omega arith) below).past above past))
