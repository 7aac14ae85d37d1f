-- What inner functions ask for, in place of tests that were made before: the bounds that rules 1 to 6 give, and what rules 15 and 17 add at a node.
use Rattle.std.specs.Prelude.{ℕ, ◌+◌, ◌*◌, ◌≤◌, ◌≡◌, List, length}
use Rattle.model.specs.Image.{node_count, dimension_offset, word_count, data_offset, data_length, tree_of, node}
use Rattle.model.specs.Records.{words_before, bytes_before}

-- header, records, dimension words and data lie one after the other and fill the image
pub record Laid (b : List ℕ) : Type 0 where
  pub short : length b ≤ 16777216
  pub some : 1 ≤ node_count b
  pub few : node_count b ≤ 4096
  pub few_words : word_count b ≤ 49152
  pub words-at : dimension_offset b ≡ 32 + 84 * node_count b
  pub data_at_lem : data_offset b ≡ 32 + 84 * node_count b + 8 * word_count b
  pub whole : data_offset b + data_length b ≡ length b

-- a node's dimension words and data bytes, where rules 1 to 18 hold
pub record Placed (b : List ℕ) (i : ℕ) : Type 0 where
  pub words-from : (node (tree_of b) i).first_word ≡ words_before (tree_of b) i
  pub words_in : (node (tree_of b) i).first_word + (node (tree_of b) i).rank ≤ word_count b
  pub data_from : (node (tree_of b) i).data_at ≡ bytes_before (tree_of b) i
  pub data_in : (node (tree_of b) i).data_at + (node (tree_of b) i).data_size ≤ data_length b
