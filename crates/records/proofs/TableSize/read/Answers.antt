-- Each number is a word of the header.
use Rattle.model.specs.Image.{header_word, node_count, word_count, data_length}
use Rattle.records.proofs.TableSize.read.Goals as goal

pub returns : goal.returns
unfolding header_word node_count word_count data_length
returns c = cc
