-- Document 01, "The image": eight header words, node records, dimension words, data bytes.
use Rattle.std.specs.Prelude.{ℕ, zero, suc, ◌+◌, ◌*◌, List, [], ◌∷◌, get_or, take, drop}
use Rattle.model.specs.Bytes.{le, numbers, text, place_from}

-- the header's eight u32 words, in order
unfoldable pub header_word : List ℕ → ℕ → ℕ
header_word b k = le 4 (drop (4 * k) b)

unfoldable pub form : List ℕ → ℕ
form b = header_word b 0

unfoldable pub total_length : List ℕ → ℕ
total_length b = header_word b 1

-- N
unfoldable pub node_count : List ℕ → ℕ
node_count b = header_word b 2

unfoldable pub record_offset : List ℕ → ℕ
record_offset b = header_word b 3

unfoldable pub dimension_offset : List ℕ → ℕ
dimension_offset b = header_word b 4

-- D
unfoldable pub word_count : List ℕ → ℕ
word_count b = header_word b 5

unfoldable pub data_offset : List ℕ → ℕ
data_offset b = header_word b 6

unfoldable pub data_length : List ℕ → ℕ
data_length b = header_word b 7

abbrev pub header_size : ℕ
header_size = 32

abbrev pub record_size : ℕ
record_size = 84

-- where the record of node i starts
abbrev pub record_at : ℕ → ℕ
record_at i = header_size + record_size * i

-- what a node record holds
pub record Node : Type 0 where
  pub name : List ℕ
  pub label : List ℕ
  pub data_type : List ℕ
  -- dimension count, and its first dimension word
  pub rank : ℕ
  pub first_word : ℕ
  pub parent : ℕ
  -- data offset within the data area, and data length
  pub data_at : ℕ
  pub data_size : ℕ

-- a node record: name 32, label 32, data type 2, dimension count u16, first dimension word, parent, data offset, data length u32
unfoldable pub node_of : List ℕ → Node
node_of s =
    record {
      name = take 32 s;
      label = take 32 (drop 32 s);
      data_type = take 2 (drop 64 s);
      rank = le 2 (drop 66 s);
      first_word = le 4 (drop 68 s);
      parent = le 4 (drop 72 s);
      data_at = le 4 (drop 76 s);
      data_size = le 4 (drop 80 s);
    }

unfoldable pub nodes_of : ℕ → List ℕ → List Node
nodes_of zero s = []
nodes_of (suc n) s = node_of s ∷ nodes_of n (drop record_size s)

-- what is validated after the header: the nodes; D and the bytes from the dimension words on; the data area's place and length and the bytes from it on
pub record Tree : Type 0 where
  pub count : ℕ
  pub nodes : List Node
  pub word_total : ℕ
  pub words : List ℕ
  pub area_at : ℕ
  pub byte_total : ℕ
  pub bytes : List ℕ

unfoldable pub tree_of : List ℕ → Tree
tree_of b =
    record {
      count = node_count b;
      nodes = nodes_of (node_count b) (drop header_size b);
      word_total = word_count b;
      words = drop (dimension_offset b) b;
      area_at = data_offset b;
      byte_total = data_length b;
      bytes = drop (data_offset b) b;
    }

-- node i; past the last a node of nothing: no text, no type, no dimension, no data
unfoldable pub node : Tree → ℕ → Node
node t i = get_or t.nodes i (node_of [])

unfoldable pub name : Tree → ℕ → List ℕ
name t i = (node t i).name

unfoldable pub label : Tree → ℕ → List ℕ
label t i = (node t i).label

unfoldable pub parent : Tree → ℕ → ℕ
parent t i = (node t i).parent

-- its dimensions, u64 words
unfoldable pub dimensions : Tree → ℕ → List ℕ
dimensions t i = numbers 8 (node t i).rank (drop (8 * (node t i).first_word) t.words)

-- its data bytes
unfoldable pub stored : Tree → ℕ → List ℕ
stored t i = take (node t i).data_size (drop (node t i).data_at t.bytes)

-- the eleven data types; a type is its place in this list, from 1, and 0 for any other
unfoldable pub data_types : List (List ℕ)
data_types =
    text "MT" ∷ text "C1" ∷ text "B1" ∷ text "I4" ∷ text "U4" ∷ text "R4" ∷ text "I8" ∷ text "U8" ∷ text "R8" ∷ text "X4" ∷ text "X8" ∷ []

abbrev pub MT : ℕ
MT = 1

abbrev pub C1 : ℕ
C1 = 2

abbrev pub I4 : ℕ
I4 = 4

abbrev pub R4 : ℕ
R4 = 6

abbrev pub I8 : ℕ
I8 = 7

abbrev pub R8 : ℕ
R8 = 9

unfoldable pub data_type_of : Tree → ℕ → ℕ
data_type_of t i = place_from 1 (node t i).data_type data_types

-- widths in bytes: MT 0, C1 and B1 1, I4 U4 R4 4, I8 U8 R8 X4 8, X8 16; the first place is for no data type
unfoldable pub widths : List ℕ
widths = 0 ∷ 0 ∷ 1 ∷ 1 ∷ 4 ∷ 4 ∷ 4 ∷ 8 ∷ 8 ∷ 8 ∷ 8 ∷ 16 ∷ []

unfoldable pub width : Tree → ℕ → ℕ
width t i = get_or widths (data_type_of t i) 0

-- stored number k of node i, counted from 0, as its bits
unfoldable pub number : Tree → ℕ → ℕ → ℕ
number t i k = le (width t i) (drop (width t i * k) (stored t i))
