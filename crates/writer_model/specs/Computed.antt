-- One definition that opens every definition of the crate: a proof by computation opens this one alone. Written by tests/open_model.
use Rattle.std.specs.Prelude.{ℕ, List}
use Rattle.model.specs.Rules.{Answer}
use Rattle.model.specs.Computed.{computed}
use Rattle.writer_model.specs.declared.Writer.{Writer}
use Rattle.writer_model.specs.After.{after}
use Rattle.writer_model.specs.Writer.{room_for, needed_room, start_check, started, start_answer, blank_image, start_memory, padded, type_field, added_node, tree_with, line_lawful, addition_rules, add_check, next_state, add_answer, record_bytes, words_place, bytes_place, with_node, add_memory, finish_check, finish_answer}
use Rattle.writer_model.specs.Exports.{state_in, state_numbers, state_fits, state_after, writing_words}
use Rattle.writer_model.specs.Claims.{start_draft, with_added, draft_of, added_of, as_stored, all_stored, node_read, nodes_read, Below, AllWords, last_state}

unfoldable pub computed_writer : Writer → List ℕ → Answer ℕ
unfolding computed after room_for needed_room start_check started start_answer blank_image start_memory padded type_field added_node tree_with line_lawful addition_rules add_check next_state add_answer record_bytes words_place bytes_place with_node add_memory finish_check finish_answer state_in state_numbers state_fits state_after writing_words start_draft with_added draft_of added_of as_stored all_stored node_read nodes_read Below AllWords last_state
computed_writer s room = finish_answer s room
