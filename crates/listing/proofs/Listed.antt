-- A ring's list has the bins at the places where its modes start, from the first one past the last bin on: so it rises. Assumes nothing.
use Prim.Native.Nat.{ℕ, ◌≤◌}
use mathlib.Core.Path.{◌≡◌, sym, ap, subst, ◌∙◌}
use mathlib.Core.List.{List, map, map-map}
use native.Mathlib.Omega.{arith}
use lib.ListN.{length}
use Rattle.lists.specs.Lists.{numbers, filter, first_index, contains, Rising}
use Rattle.verdict.specs.Test.{Closeness}
use Rattle.segmentation.specs.Segments.{Segment}
use Rattle.segmentation.specs.Ring.{opening, ring_bin, ring_modes, ring_starts}
use Rattle.segmentation.proofs.RingPlaces.{opening-in}
use Rattle.segmentation.proofs.RingModes.{ring_cut}
use Rattle.segmentation.proofs.ModeStarts.{starts_of, starts-length, start-at, starts-rise}
use Rattle.listing.specs.Listing.{ring_separators}
use Rattle.listing.specs.Numbers.{bin_at_place, past_last, bins_from}
use Rattle.listing.proofs.Rotated.{OneTurn, rotated-length, rotated-rises, rotated-same, rotated-is}

-- the places where the modes start
abbrev pub start_places : Closeness → List ℕ → List ℕ
start_places e h = starts_of (ring_modes e h)

module _ (e : Closeness) (h : List ℕ) (two : 2 ≤ length h) where
  one-turn : OneTurn (opening h) (length h) (start_places e h)
  one-turn =
      let cut = ring_cut h two e in
      record {
        in_ring = opening-in h (omega arith);
        rises = starts-rise (ring_modes e h) cut.chain;
        first_turn = λ m l. omega (arith, start-at (ring_modes e h) m, cut.first_turn m (omega (arith, starts-length (ring_modes e h))));
      }

  starts-are : ring_starts e h ≡ map (bin_at_place (opening h) (length h)) (start_places e h)
  unfolding ring_starts ring_bin
  starts-are = sym (map-map (bin_at_place (opening h) (length h)) (λ (s : Segment). s.start) (ring_modes e h))

  -- the list, as the code writes it
  pub listed : ring_separators e h ≡ bins_from (opening h) (length h) (first_index (past_last (opening h) (length h)) (start_places e h)) (start_places e h)
  unfolding ring_separators
  listed = ap (λ (xs : List ℕ). filter (contains xs) (numbers 0 (length h))) starts-are ∙ rotated-is (opening h) (length h) (start_places e h) one-turn

  pub listed-count : length (ring_separators e h) ≡ length (ring_modes e h)
  listed-count = ap length listed ∙ rotated-length (opening h) (length h) (start_places e h) one-turn ∙ starts-length (ring_modes e h)

  pub listed-starts : (b : ℕ) → contains (ring_separators e h) b ≡ contains (ring_starts e h) b
  listed-starts b =
      ap (λ (xs : List ℕ). contains xs b) listed ∙ sym (rotated-same (opening h) (length h) (start_places e h) one-turn b)
      ∙ ap (λ (xs : List ℕ). contains xs b) (sym starts-are)

  pub listed-rises : Rising (ring_separators e h)
  listed-rises = subst Rising (sym listed) (rotated-rises (opening h) (length h) (start_places e h) one-turn)
