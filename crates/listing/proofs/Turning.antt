-- A ring with a single lowest bin is opened at it, before a turn and after. So what is read from the opening on stays, and with it the modes. Assumes nothing.
use Prim.Native.Nat.{ℕ, suc, ◌+◌, ◌%◌, ◌≤◌, ◌<◌}
use mathlib.Core.Path.{◌≡◌, refl, sym, ap, ap₂, ◌∙◌}
use mathlib.Core.List.{List, ◌++◌, map, map-map}
use native.Mathlib.Omega.{arith}
use native.Mathlib.Nat.{mod-lt, mod-add-mod}
use lib.ListN.{length, take, get_or}
use lib.Seq.{ext_get_or}
use Rattle.lists.specs.Lists.{contains}
use Rattle.lists.proofs.Cases.{by_order}
use Rattle.verdict.specs.Test.{Closeness}
use Rattle.segmentation.specs.Segments.{Segment, segment_at, bin_at}
use Rattle.segmentation.specs.Ring.{opening, opened, ring_bin, line_place, from_opening, two_turns, ring_modes, ring_starts, in_ring_mode}
use Rattle.segmentation.proofs.RingPlaces.{opening-in, opening-lowest, ring_in, place_in, place-bin, bin-place}
use Rattle.segmentation.proofs.TwoTurns.{opening-length, opening-bins, opened-turns}
use Rattle.listing.specs.Listing.{ring_separators}
use Rattle.listing.specs.Turning.{turned, turned_bin, SingleLowest, SeparatorsTurn, SameContents, TurnsAlong, TurningKeeps}
use Rattle.listing.proofs.Listed.{listed-starts, listed-count}
use Rattle.listing.proofs.ReadOff.{starts-count, start-bin}
use Rattle.listing.proofs.TurnedBins.{same_length, former_bin, former-holds, turned-again, bin-moved, contains-moved}

module _ (k : ℕ) (h : List ℕ) (two : 2 ≤ length h) where
  some : 1 ≤ length h
  some = omega arith

  some-turned : 1 ≤ length (turned k h)
  some-turned = omega (arith, same_length k h)

  -- ---- both openings hold the lowest count, and only one bin does
  module _ (single : SingleLowest h) where
    only-lowest : (b : ℕ) → b < length h → bin_at h b ≤ bin_at h single.bin → b ≡ single.bin
    only-lowest b l low =
        by_order b single.bin
        (λ a. absurd (omega (arith, single.lowest b l (λ e. omega arith))))
        (λ a. by_order single.bin b (λ c. absurd (omega (arith, single.lowest b l (λ e. omega arith)))) (λ c. omega arith))

    pub opening-turns : opening (turned k h) ≡ turned_bin k h (opening h)
    opening-turns =
        let ring = turned k h in
        let long = same_length k h in
        let within : opening ring < length h = omega (arith, opening-in ring some-turned) in
        let former = former_bin k h (opening ring) in
        let there : turned_bin k h single.bin < length h = mod-lt (single.bin + k) some in
        let low : bin_at h former ≤ bin_at h single.bin = omega (
          arith,
          opening-lowest ring (turned_bin k h single.bin) (omega arith),
          former-holds k h (opening ring) within,
          bin-moved k h single.bin single.in_ring,
        ) in
        let here : opening h ≡ single.bin = only-lowest (opening h) (opening-in h some) (opening-lowest h single.bin single.in_ring) in
        sym (turned-again k h (opening ring) within) ∙ ap (turned_bin k h) (only-lowest former (mod-lt _ some) low ∙ sym here)

  -- ---- if the opening turns along, so does all that is read from it on. Nothing else is asked of the lowest bins
  module _ (along : opening (turned k h) ≡ turned_bin k h (opening h)) where
    bin-turns : (i : ℕ) → ring_bin (turned k h) i ≡ turned_bin k h (ring_bin h i)
    unfolding ring_bin
    bin-turns i =
        let n = length h in
        let e : opening h + k + i ≡ opening h + i + k = omega arith in
        ap₂ (λ (o : ℕ) (m : ℕ). (o + i) % m) along (same_length k h)
        ∙ mod-add-mod (opening h + k) n i ∙ ap (λ (z : ℕ). z % n) e ∙ sym (mod-add-mod (opening h + i) n k)

    place-stays : (b : ℕ) → b < length h → line_place (turned k h) (turned_bin k h b) ≡ line_place h b
    place-stays b l =
        let p = line_place h b in
        ap (line_place (turned k h)) (sym (bin-turns p ∙ ap (turned_bin k h) (place-bin h some b l)))
        ∙ bin-place (turned k h) some-turned p (omega (arith, same_length k h, place_in h some b))

    round-stays : from_opening (turned k h) ≡ from_opening h
    round-stays =
        let long = same_length k h in
        let there = opening-length (turned k h) some-turned in
        let here = opening-length h some in
        ext_get_or 0 (from_opening (turned k h)) (from_opening h) (there ∙ long ∙ sym here)
        (λ i l.
        opening-bins (turned k h) some-turned i (omega arith) ∙ ap (bin_at (turned k h)) (bin-turns i) ∙ bin-moved k h (ring_bin h i) (ring_in h some i)
        ∙ sym (opening-bins h some i (omega arith)))

    rounds-stay : two_turns (turned k h) ≡ two_turns h
    unfolding two_turns
    rounds-stay = ap (λ (turn : List ℕ). turn ++ turn) round-stays

    line_stays : opened (turned k h) ≡ opened h
    line_stays =
        opened-turns (turned k h) some-turned ∙ ap₂ (λ (n : ℕ) (turns : List ℕ). take (suc n) turns) (same_length k h) rounds-stay ∙ sym (opened-turns h some)

    -- ---- so the modes stay, by places from the opening on
    module _ (e : Closeness) where
      modes-stay : ring_modes e (turned k h) ≡ ring_modes e h
      unfolding ring_modes
      modes-stay = rw (line_stays, rounds-stay, same_length k h) refl

      mode-count : length (ring_modes e (turned k h)) ≡ length (ring_modes e h)
      mode-count = ap length modes-stay

      contents-kept : (m : ℕ) → SameContents e k h m m
      unfolding in_ring_mode
      contents-kept m b l = rw (modes-stay, same_length k h, place-stays b l) refl

      starts-turn : ring_starts e (turned k h) ≡ map (turned_bin k h) (ring_starts e h)
      unfolding ring_starts
      starts-turn =
          ap (map (λ (s : Segment). ring_bin (turned k h) s.start)) modes-stay
          ∙ ap (λ (f : Segment → ℕ). map f (ring_modes e h)) (λ i s. bin-turns s.start i)
          ∙ sym (map-map (turned_bin k h) (λ (s : Segment). ring_bin h s.start) (ring_modes e h))

      start-in : (m : ℕ) → m < length (ring_starts e h) → get_or (ring_starts e h) m 0 < length h
      start-in m l =
          let inside : m < length (ring_modes e h) = omega (arith, starts-count e h two) in
          omega (arith, start-bin e h two m inside, ring_in h some (segment_at (ring_modes e h) m).start)

      separators-turn : SeparatorsTurn e k h
      separators-turn b l =
          listed-starts e (turned k h) (omega (arith, same_length k h)) (turned_bin k h b)
          ∙ ap (λ (starts : List ℕ). contains starts (turned_bin k h b)) starts-turn
          ∙ contains-moved k h (ring_starts e h) start-in b l ∙ sym (listed-starts e h two b)

      separator-count : length (ring_separators e (turned k h)) ≡ length (ring_separators e h)
      separator-count = listed-count e (turned k h) (omega (arith, same_length k h)) ∙ mode-count ∙ sym (listed-count e h two)

      pub turns_along : TurnsAlong e k h
      turns_along = record {
        separators = separators-turn;
        as_many = separator-count;
        contents = λ m l. (m, omega (arith, mode-count), contents-kept m);
        same_modes = mode-count;
        same_numbers = contents-kept;
        starts = starts-turn;
      }

pub turning-keeps : TurningKeeps
turning-keeps e k h two single = turns_along k h two (opening-turns k h two single) e
