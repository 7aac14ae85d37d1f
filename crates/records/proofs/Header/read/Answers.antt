-- Each word is read at its place.
use Rattle.model.specs.Image.{header_word, form, total_length, node_count, record_offset, dimension_offset, word_count, data_offset, data_length}
use Rattle.records.proofs.Header.read.Goals as goal

pub returns : goal.returns
unfolding header_word form total_length node_count record_offset dimension_offset word_count data_offset data_length
returns c = cc
