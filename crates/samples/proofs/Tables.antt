-- Every row of the tables holds, computed from the definitions. Assumes nothing.
use mathlib.Core.Path.{refl}
use Rattle.lists.specs.Lists.{part, numbers, filter, count_if, contains, first_that, largest_that, first_lowest, largest}
use Rattle.pixel.specs.Colour.{intensity_bin, chroma_squared, saturation_of, saturation_bin, is_grey, tangents, hue_point, quarter, turned_back, turned_of, tangents_passed, hue_at, hue_of, hue_bin, measures_of}
use Rattle.logarithm.specs.Log.{round_count, units_per_bit, floor_log, rounds, lg}
use Rattle.pooling.specs.Blocks.{push, blocks, fitted, places_from}
use Rattle.verdict.specs.Test.{place_of, mass_within, mass_across, fitted_mass, weight, part_weight, least_closeness, most_closeness, bar, largest_weight, cost, step_against, rejected, verdict_of}
use Rattle.segmentation.specs.Segments.{rises_above, is_valley, first_separators, first_highest, segments_from, first_segments, in_mode}
use Rattle.segmentation.specs.Joining.{rise_of, fall_of, joined, join, rise_cost, fall_cost, join_of, cheapest, next_among, next_join, join_all, line_modes, line_separators}
use Rattle.segmentation.specs.Around.{twice, next_round, join_twice, join_round}
use Rattle.segmentation.specs.Ring.{opening, opened, ring_bin, line_place, from_opening, two_turns, ring_modes, ring_starts, in_round, in_ring_mode}
use Rattle.listing.specs.Listing.{ring_separators}
use Rattle.grounds.specs.Grounds.{first_ground, verdict_number, widen_number}
use Rattle.joinlog.specs.JoinLog.{joins_made, made_on_line, log_of, line_log, same_number, same_numbers}
use Rattle.samples.specs.Starred.{StarredHold}
use Rattle.samples.specs.Guards.{GuardsHold}
use Rattle.samples.specs.Rings.{RingsHold, JoinsRoundHold}
use Rattle.kistrovu.specs.Answers.{widened_list}
use Rattle.samples.specs.Logs.{LogsHold}
use Rattle.samples.specs.Widenings.{WideningsHold}

pub starred-hold : StarredHold
unfolding part numbers filter count_if first_that largest_that first_lowest largest intensity_bin chroma_squared saturation_of saturation_bin is_grey tangents hue_point quarter turned_back turned_of tangents_passed hue_at hue_of hue_bin measures_of round_count units_per_bit floor_log rounds lg push blocks fitted places_from place_of mass_within mass_across fitted_mass weight part_weight bar largest_weight cost rises_above is_valley first_separators first_highest segments_from first_segments rise_of fall_of joined join rise_cost fall_cost join_of cheapest next_among next_join join_all line_modes line_separators
starred-hold = refl

pub guards-hold : GuardsHold
unfolding part numbers filter count_if first_that largest_that first_lowest largest intensity_bin chroma_squared saturation_of saturation_bin is_grey tangents hue_point quarter turned_back turned_of tangents_passed hue_at hue_of hue_bin measures_of round_count units_per_bit floor_log rounds lg push blocks fitted places_from place_of mass_within mass_across fitted_mass weight part_weight bar largest_weight cost least_closeness most_closeness step_against rejected verdict_of rises_above is_valley first_separators first_highest segments_from first_segments rise_of fall_of joined join rise_cost fall_cost join_of cheapest next_among next_join join_all line_modes line_separators in_mode first_ground verdict_number
guards-hold = refl

pub rings-hold : RingsHold
unfolding part numbers filter count_if contains first_that largest_that first_lowest largest round_count units_per_bit floor_log rounds lg push blocks fitted places_from place_of mass_within mass_across fitted_mass weight part_weight bar largest_weight cost rises_above is_valley first_separators first_highest segments_from first_segments rise_of fall_of joined join rise_cost fall_cost join_of cheapest next_among next_join join_all line_modes twice next_round join_twice join_round opening opened ring_bin line_place from_opening two_turns ring_modes ring_starts ring_separators in_round in_ring_mode
rings-hold = refl

pub joins-round-hold : JoinsRoundHold
unfolding part numbers filter count_if contains first_that largest_that first_lowest largest round_count units_per_bit floor_log rounds lg push blocks fitted places_from place_of mass_within mass_across fitted_mass weight part_weight bar largest_weight cost rises_above is_valley first_separators first_highest segments_from first_segments rise_of fall_of joined join rise_cost fall_cost join_of cheapest next_among next_join join_all line_modes twice next_round join_twice join_round opening opened ring_bin line_place from_opening two_turns ring_modes in_round in_ring_mode
joins-round-hold = refl

pub logs-hold : LogsHold
unfolding part numbers filter count_if first_that largest_that first_lowest largest round_count units_per_bit floor_log rounds lg push blocks fitted places_from place_of mass_within mass_across fitted_mass weight part_weight bar largest_weight cost rises_above is_valley first_separators first_highest segments_from first_segments rise_of fall_of joined join rise_cost fall_cost join_of cheapest next_among next_join joins_made made_on_line log_of line_log same_number same_numbers
logs-hold = refl

pub widenings-hold : WideningsHold
unfolding numbers first_ground widen_number widened_list
widenings-hold = refl
