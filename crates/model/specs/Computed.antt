-- One definition that opens every definition of the model: a proof by computation opens this one alone. Written by tests/open_model.
use Rattle.std.specs.Prelude.{ℕ, List}
use Rattle.model.specs.Rules.{Answer}
use Rattle.model.specs.Validation.{Counts}
use Rattle.model.specs.Lists.{◌⊃◌, every_from, some_from, count_from, list_from, seek_from, sum_before, among, row, over, over_at}
use Rattle.model.specs.Found.{if_below}
use Rattle.model.specs.Bytes.{le, numbers, half, negative, below, magnitude, distance, signed, same, text, blank, spells, place_from}
use Rattle.model.specs.Rules.{◌then◌, ◌gives◌, ◌into◌, check, ◌at_entry◌, check_from, leaves}
use Rattle.model.specs.Image.{header_word, form, total_length, node_count, record_offset, dimension_offset, word_count, data_offset, data_length, node_of, nodes_of, tree_of, node, name, label, parent, dimensions, stored, data_types, data_type_of, widths, width, number}
use Rattle.model.specs.Header.{length_lawful, node_count_lawful, laid_out, header_rules, header_check}
use Rattle.model.specs.Records.{parent_lawful, deeper_than, printable, label_lawful, name_lawful, sibling, namesake, name_taken, link, rank_lawful, words_before, words_lawful, product, data_size_lawful, bytes_before, data_at_lawful, record_rules, record_check_at, record_check, nothing_trails, trailing_check, table_check, table_counts, table_answer}
use Rattle.model.specs.Containment.{known_labels, role, containment, may_hold, validated_within, validated, skipped, validated_as, is_zone, section_of, fixed_names, fixed_name, is_child, child, found, or_missing}
use Rattle.model.specs.Values.{typed, shaped, flat, reads, size, zone_type_shape, zone_type_value, zone_type_of, structured, unstructured, cell_dimension, index_dimension, vertex_size, cell_size, boundary_size, structured_sizes, unstructured_sizes, zone_value, base_value, range_value, not_negative, rind_value, location_value, zone_above, range_shape, list_count, list_shape, range_begin, range_end, bounded, direction_lawful, point_range_value, index_range_value, points_in, points_from, points, not_both, element_array, section_array_type, array_type, type_lawful, value_lawful, conforming, range_of, offsets_of, connectivity_of, point_range_of, point_list_of, placed, named, base_child, complete, cell_centred, rind_number, data_size, data_sizes_from, sizes_by_zone, data_sizes, sized_array, sizes_lawful, sids_rules}
use Rattle.model.specs.Elements.{nodes_per, has_offsets, taken, start_of, own_type, size_of, corner_place, fits_length, type_fits, element_type_of, first_element, last_element, in_range, element_count, start_offset, reference, connectivity_length, layout_of, element_start, element_size, corner_reference, meets, overlap, overlaps, lengths_fit, starts_at_zero, rises, all_rise, ends_at_length, least_size, large_enough, all_large_enough, all_types_fit, starts_at, is_type_number, is_node, conforming_section, has_element, element_of, face_section, has_face, face_of, section_with_face, cell_section, has_cell, cell_of, face_number, not_zero, is_element, is_face, element_rules, reference_rules, reference_check_at, reference_check, parents_of, first_parent, second_parent, are_parents, parents_lawful, parent_rules}
use Rattle.model.specs.Validation.{section_check, node_check_at, node_check, image_check, counts, validation}
use Rattle.model.specs.NameBytes.{first_difference, pair_bytes, bytes_with_earlier, name_bytes, name_bytes_answer}
use Rattle.model.specs.Path.{trimmed, names_within, path_of, path_check, path_answer, path_memory}
use Rattle.model.specs.DataSize.{is_sized_array, sizes_of, data_size_answer}
use Rattle.model.specs.Sections.{section_nodes, data_start, entry, entries, section_entries, entry_numbers, all_numbers, sections_check, sections_answer, sections_memory, section_numbers_memory}
use Rattle.model.specs.Corner.{in_entry, width_lawful, inside, number_at, layout_in, entry_start, entry_size, starts_before, readable, is_corner, corner_check, corner_number, corner_answer}
use Rattle.model.specs.ArrayValue.{value_at, value_check, value_answer}
use Rattle.model.specs.FaceUsage.{faces_in, face_count, face_place, use_place, use_sign, ends_after, element_holding, unused, use_entry, use_entries, uses_in, use_nodes, usage, usage_check, usage_answer, usage_bytes, usage_memory, positive_uses, negative_uses, cell_entries}
use Rattle.model.specs.ParentElements.{stored_parents, parents_check, parents_answer, users_in, users_from, users, agree, face_agrees, has_parents, section_agrees, all_agree, agreement_check, agreement_answer, agreement_memory}
use Rattle.model.specs.Reads.{section_at, read_answer}
use Rattle.model.specs.ReadList.{request_at, answer_at, rule_of, number_of, values_from, reads_check}
use Rattle.model.specs.ElementCorners.{element_corners_check, element_corners_answer, element_corners_memory}
use Rattle.model.specs.OwnType.{own_type_check, own_type_answer}
use Rattle.model.specs.Exports.{validation_words, count_words, usage_words, parent_words, agreement_words, value_words, size_words, words_fit, export_rule, export_bytes, export_memory, tells_entry, section_in, read_fits, corner_exported, number_bytes, element_exported, count_word, type_exported}

unfoldable pub computed : List ℕ → Answer Counts
unfolding ◌⊃◌ every_from some_from count_from list_from seek_from sum_before among row over over_at if_below le numbers half negative below magnitude distance signed same text blank spells place_from ◌then◌ ◌gives◌ ◌into◌ check ◌at_entry◌ check_from leaves header_word form total_length node_count record_offset dimension_offset word_count data_offset data_length node_of nodes_of tree_of node name label parent dimensions stored data_types data_type_of widths width number length_lawful node_count_lawful laid_out header_rules header_check parent_lawful deeper_than printable label_lawful name_lawful sibling namesake name_taken link rank_lawful words_before words_lawful product data_size_lawful bytes_before data_at_lawful record_rules record_check_at record_check nothing_trails trailing_check table_check table_counts table_answer known_labels role containment may_hold validated_within validated skipped validated_as is_zone section_of fixed_names fixed_name is_child child found or_missing typed shaped flat reads size zone_type_shape zone_type_value zone_type_of structured unstructured cell_dimension index_dimension vertex_size cell_size boundary_size structured_sizes unstructured_sizes zone_value base_value range_value not_negative rind_value location_value zone_above range_shape list_count list_shape range_begin range_end bounded direction_lawful point_range_value index_range_value points_in points_from points not_both element_array section_array_type array_type type_lawful value_lawful conforming range_of offsets_of connectivity_of point_range_of point_list_of placed named base_child complete cell_centred rind_number data_size data_sizes_from sizes_by_zone data_sizes sized_array sizes_lawful sids_rules nodes_per has_offsets taken start_of own_type size_of corner_place fits_length type_fits element_type_of first_element last_element in_range element_count start_offset reference connectivity_length layout_of element_start element_size corner_reference meets overlap overlaps lengths_fit starts_at_zero rises all_rise ends_at_length least_size large_enough all_large_enough all_types_fit starts_at is_type_number is_node conforming_section has_element element_of face_section has_face face_of section_with_face cell_section has_cell cell_of face_number not_zero is_element is_face element_rules reference_rules reference_check_at reference_check parents_of first_parent second_parent are_parents parents_lawful parent_rules section_check node_check_at node_check image_check counts validation first_difference pair_bytes bytes_with_earlier name_bytes name_bytes_answer trimmed names_within path_of path_check path_answer path_memory is_sized_array sizes_of data_size_answer section_nodes data_start entry entries section_entries entry_numbers all_numbers sections_check sections_answer sections_memory section_numbers_memory in_entry width_lawful inside number_at layout_in entry_start entry_size starts_before readable is_corner corner_check corner_number corner_answer value_at value_check value_answer faces_in face_count face_place use_place use_sign ends_after element_holding unused use_entry use_entries uses_in use_nodes usage usage_check usage_answer usage_bytes usage_memory positive_uses negative_uses cell_entries stored_parents parents_check parents_answer users_in users_from users agree face_agrees has_parents section_agrees all_agree agreement_check agreement_answer agreement_memory section_at read_answer request_at answer_at rule_of number_of values_from reads_check element_corners_check element_corners_answer element_corners_memory own_type_check own_type_answer validation_words count_words usage_words parent_words agreement_words value_words size_words words_fit export_rule export_bytes export_memory tells_entry section_in read_fits corner_exported number_bytes element_exported count_word type_exported
computed b = validation b
