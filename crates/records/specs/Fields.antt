-- What Header, RecordNumbers and Record hold, in the model's terms.
use Rattle.std.specs.Prelude.{ℕ, List}
use Rattle.model.specs.Image.{form, total_length, node_count, record_offset, dimension_offset, word_count, data_offset, data_length}
use Rattle.model.specs.Image.{Tree, node, name, label, parent}
use Rattle.records.specs.declared.Header.{Header}
use Rattle.records.specs.declared.RecordNumbers.{RecordNumbers}
use Rattle.records.specs.declared.Record.{Record}

abbrev pub header_of : List ℕ → Header
header_of b =
    record {
      form = form b;
      total_length = total_length b;
      node_count = node_count b;
      record_offset = record_offset b;
      dimension_offset = dimension_offset b;
      word_count = word_count b;
      data_offset = data_offset b;
      data_length = data_length b;
    }

abbrev pub numbers_of : Tree → ℕ → RecordNumbers
numbers_of t i =
    record {
      rank = (node t i).rank;
      first_word = (node t i).first_word;
      parent = parent t i;
      data_at = (node t i).data_at;
      data_size = (node t i).data_size;
    }

abbrev pub record_of : Tree → ℕ → Record
record_of t i =
    record {
      name = name t i;
      label = label t i;
      data_type = (node t i).data_type;
      rank = (node t i).rank;
      first_word = (node t i).first_word;
      parent = parent t i;
      data_at = (node t i).data_at;
      data_size = (node t i).data_size;
    }
