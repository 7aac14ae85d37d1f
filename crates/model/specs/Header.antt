-- Rules 1 to 6: the header.
use Rattle.std.specs.Prelude.{ℕ, ◌+◌, ◌*◌, Bool, ◌&&◌, List, [], ◌∷◌, length, eqb, leb}
use Rattle.model.specs.Rules.{Rule, ◌unless◌, Check, check}
use Rattle.model.specs.Image.{form, total_length, node_count, record_offset, dimension_offset, word_count, data_offset, data_length, header_size, record_size}

abbrev pub max_length : ℕ
max_length = 16777216

abbrev pub max_nodes : ℕ
max_nodes = 4096

abbrev pub max_words : ℕ
max_words = 49152

-- 1: not under 32 bytes, not over 16,777,216
unfoldable pub length_lawful : List ℕ → Bool
length_lawful b = leb header_size (length b) && leb (length b) max_length

-- 4: N is not 0 and not over 4,096
unfoldable pub node_count_lawful : List ℕ → Bool
node_count_lawful b = leb 1 (node_count b) && leb (node_count b) max_nodes

-- 6: the offsets and the data length
unfoldable pub laid_out : List ℕ → Bool
laid_out b =
    eqb (record_offset b) header_size
    && eqb (dimension_offset b) (header_size + record_size * node_count b)
    && eqb (data_offset b) (header_size + record_size * node_count b + 8 * word_count b)
    && eqb (data_offset b + data_length b) (total_length b)

unfoldable pub header_rules : List ℕ → List Rule
header_rules b =
    1 unless length_lawful b
    ∷ 2 unless eqb (form b) 1
    ∷ 3 unless eqb (total_length b) (length b)
    ∷ 4 unless node_count_lawful b
    ∷ 5 unless leb (word_count b) max_words
    ∷ 6 unless laid_out b
    ∷ []

unfoldable pub header_check : List ℕ → Check
header_check b = check 0 (header_rules b)
