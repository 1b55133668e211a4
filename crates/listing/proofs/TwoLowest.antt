-- With two lowest bins a turn need not keep separators and modes: one ring and its turn, computed from the definitions. Assumes nothing.
use Prim.Native.Nat.{ℕ, zero, suc, ◌<◌}
use mathlib.Core.Path.{◌≡◌, refl, sym, ◌∙◌}
use mathlib.Core.Bool.{true, false, false≢true}
use mathlib.Core.List.{List, [], ◌∷◌}
use native.Mathlib.Omega.{arith}
use lib.IntN.{pos}
use lib.ListN.{length}
use Rattle.lists.specs.Lists.{part, numbers, filter, count_if, contains, first_that, largest_that, first_lowest, largest}
use Rattle.logarithm.specs.Log.{round_count, units_per_bit, floor_log, rounds, lg}
use Rattle.pooling.specs.Blocks.{push, blocks, places_from}
use Rattle.verdict.specs.Test.{place_of, mass_within, mass_across, fitted_mass, weight, part_weight, bar, largest_weight, cost}
use Rattle.segmentation.specs.Segments.{rises_above, is_valley, first_separators, first_highest, segments_from, first_segments}
use Rattle.segmentation.specs.Joining.{rise_of, fall_of, joined, join, rise_cost, fall_cost, join_of, cheapest, next_among, next_join, join_all, line_modes}
use Rattle.segmentation.specs.Around.{twice, next_round, join_twice, join_round}
use Rattle.segmentation.specs.Ring.{opening, opened, ring_bin, line_place, from_opening, two_turns, ring_modes, ring_starts, in_round, in_ring_mode}
use Rattle.listing.specs.Listing.{ring_separators}
use Rattle.listing.specs.Turning.{turned, SameContents, SeparatorsTurn, ContentsKept, two_lowest, TwoLowest}

-- the ring after the turn: 0, 9, 1, 9, 0
abbrev ring : List ℕ
ring = turned 2 two_lowest

-- the lists, and the modes of bins 2 and 4, which the turn takes to bins 4 and 1 and so to different modes
record Computed : Type 0 where
  before : ring_separators (pos 0) two_lowest ≡ 0 ∷ 2 ∷ []
  after : ring_separators (pos 0) ring ≡ 0 ∷ 2 ∷ []
  two : length (ring_modes (pos 0) two_lowest) ≡ 2
  two_after : length (ring_modes (pos 0) ring) ≡ 2
  has2 : in_ring_mode (pos 0) two_lowest 0 2 ≡ true
  has4 : in_ring_mode (pos 0) two_lowest 0 4 ≡ true
  lacks4 : in_ring_mode (pos 0) ring 0 4 ≡ false
  lacks1 : in_ring_mode (pos 0) ring 1 1 ≡ false

computed : Computed
unfolding part numbers filter count_if contains first_that largest_that first_lowest largest round_count units_per_bit floor_log rounds lg push blocks places_from place_of mass_within mass_across fitted_mass weight part_weight bar largest_weight cost rises_above is_valley first_separators first_highest segments_from first_segments rise_of fall_of joined join rise_cost fall_cost join_of cheapest next_among next_join join_all line_modes twice next_round join_twice join_round opening opened ring_bin line_place from_opening two_turns ring_modes ring_starts in_round in_ring_mode ring_separators turned
computed = record { before = refl; after = refl; two = refl; two_after = refl; has2 = refl; has4 = refl; lacks4 = refl; lacks1 = refl }

-- bin 2 is a separator of the ring, and bin 4 none after the turn
not-turned : ¬ SeparatorsTurn (pos 0) 2 two_lowest
unfolding contains count_if
not-turned along = false≢true (rw (computed.before, computed.after) at (along 2 (omega arith)))

-- no mode has the contents of mode 0: of the two, mode 0 lacks bin 4, and mode 1 lacks bin 1
not-kept : ¬ ContentsKept (pos 0) 2 two_lowest
not-kept kept = let k = kept 0 (omega (arith, computed.two)) in go k.0 k.1 k.2
  where
    go : (n : ℕ) → n < length (ring_modes (pos 0) ring) → SameContents (pos 0) 2 two_lowest 0 n → ⊥
    go zero l same = false≢true (sym computed.lacks4 ∙ same 2 (omega arith) ∙ computed.has2)
    go (suc zero) l same = false≢true (sym computed.lacks1 ∙ same 4 (omega arith) ∙ computed.has4)
    go (suc (suc n)) l same = absurd (omega (arith, computed.two_after))

pub two-lowest : TwoLowest
unfolding turned
two-lowest = record { turned_bins = refl; before = computed.before; after = computed.after; separators = not-turned; contents = not-kept }
