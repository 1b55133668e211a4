-- The card program's example, black beside red, computed by the checker. Assumes nothing.
use mathlib.Core.Path.{refl}
use mathlib.Core.List.{flat_map}
use Rattle.lists.specs.Lists.{part, numbers, filter, count_if, all, first_that, first_index, largest_that, first_lowest, largest, whole}
use Rattle.pixel.specs.Colour.{intensity_bin, chroma_squared, saturation_of, saturation_bin, is_grey, tangents, hue_point, quarter, turned_back, turned_of, tangents_passed, hue_at, hue_of, hue_bin}
use Rattle.segmentation.specs.Segments.{rises_above, is_valley, first_separators, first_highest, segments_from, first_segments, in_mode}
use Rattle.segmentation.specs.Joining.{next_among, next_join, join_all, line_modes}
use Rattle.segmentation.specs.Around.{twice, next_round}
use Rattle.segmentation.specs.Ring.{opening, opened, line_place, ring_modes, in_round, in_ring_mode}
use Rattle.palette.specs.Levels.{histogram}
use Rattle.palette.specs.Cards.{members, histogram_in, mean_by, mean_of, entry_of, modes_found, in_child, child, divide, divide_some, branches, entries, most_entries, pixels_of}
use Rattle.swatch.specs.Input.{lines_of, after_spaces, decimal, numeral, field, pieces, fields_of, header_of, size_of, pixel_line, pixel_bytes, bytes_of}
use Rattle.swatch.specs.Reading.{most_swatch_pixels}
use Rattle.swatch.specs.Output.{printed_in, line_in, printed_entry, printed_card}
use Rattle.grounds.specs.Grounds.{first_ground, program_closeness, text_number}
use Rattle.kistrovu.specs.Answers.{printed}
use Rattle.samples.specs.Printed.{PrintsItsCard}

pub prints-its-card : PrintsItsCard
unfolding flat_map part numbers filter count_if all first_that first_index largest_that first_lowest largest whole intensity_bin chroma_squared saturation_of saturation_bin is_grey tangents hue_point quarter turned_back turned_of tangents_passed hue_at hue_of hue_bin rises_above is_valley first_separators first_highest segments_from first_segments in_mode next_among next_join join_all line_modes twice next_round opening opened line_place ring_modes in_round in_ring_mode histogram members histogram_in mean_by mean_of entry_of modes_found in_child child divide divide_some branches entries most_entries pixels_of lines_of after_spaces decimal numeral field pieces fields_of header_of size_of pixel_line pixel_bytes bytes_of most_swatch_pixels printed_in line_in printed_entry printed_card first_ground program_closeness text_number printed
prints-its-card = refl
