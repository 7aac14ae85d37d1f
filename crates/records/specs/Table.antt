-- A table's bytes: N node records of 84 bytes, then D dimension words. An image has them after its header.
use Rattle.std.specs.Prelude.{ℕ, ◌+◌, ◌*◌, ◌/◌, ◌%◌, ◌≤◌, ◌<◌, ◌≡◌, true, List, [], ◌∷◌, length, drop}
use Rattle.model.specs.Bytes.{place_from}
use Rattle.model.specs.Rules.{passed}
use Rattle.model.specs.Image.{Tree, nodes_of, header_size, record_size, node_count, word_count, data_length, data_types}
use Rattle.model.specs.Records.{parent_lawful, record_check_at}
use Rattle.records.specs.declared.TableSize.{TableSize}

-- the tree of a table, as an image has it that starts with a header: its data follow the words
unfoldable pub table_tree : List ℕ → TableSize → Tree
table_tree s size =
    record {
      count = size.nodes;
      nodes = nodes_of size.nodes s;
      word_total = size.words;
      words = drop (record_size * size.nodes) s;
      area_at = header_size + record_size * size.nodes + 8 * size.words;
      byte_total = size.bytes;
      bytes = drop (record_size * size.nodes + 8 * size.words) s;
    }

-- the tree of n records; of as many as a table may have, for readers of one record that need not know how many there are
abbrev pub records_of : List ℕ → ℕ → Tree
records_of s n = table_tree s (record { nodes = n; words = 0; bytes = 0 })

abbrev pub all_records : List ℕ → Tree
all_records s = records_of s 4096

-- N, D and the data length of an image
abbrev pub size_of : List ℕ → TableSize
size_of b = record { nodes = node_count b; words = word_count b; bytes = data_length b }

-- the data type whose two bytes are this number, the lower first
abbrev pub type_by_code : ℕ → ℕ
type_by_code code = place_from 1 (code % 256 ∷ code / 256 ∷ []) data_types

-- the record of node i lies within the bytes
abbrev pub HasRecord : List ℕ → ℕ → Type 0
HasRecord s i = (i < 4096) × (record_size * i + record_size ≤ length s)

-- rule 7 holds at each node before i
abbrev pub LawfulBefore : List ℕ → ℕ → Type 0
LawfulBefore s i = (j : ℕ) → j < i → parent_lawful (all_records s) j ≡ true

-- records and dimension words lie one after the other within the bytes
pub record TableLaid (s : List ℕ) (size : TableSize) : Type 0 where
  pub few : size.nodes ≤ 4096
  pub few_words : size.words ≤ 49152
  pub room : record_size * size.nodes + 8 * size.words ≤ length s

-- the check of the records has come to node i: rules 7 to 17 hold at each node before it
pub record TableTo (s : List ℕ) (size : TableSize) (i : ℕ) : Type 0 where
  pub laid : TableLaid s size
  pub inside : i < size.nodes
  pub before : (j : ℕ) → j < i → record_check_at (table_tree s size) j ≡ passed
