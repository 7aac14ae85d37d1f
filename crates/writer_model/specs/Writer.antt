-- The writer (document 02 §8): an image made node by node in a lent room. Definitions for any state and any room.
use Rattle.std.specs.Prelude.{ℕ, zero, suc, ◌+◌, ◌*◌, ◌-◌, Bool, cond, ◌&&◌, ◌||◌, List, [], ◌∷◌, ◌++◌, length, take, drop, replicate, eqb, leb, ltb}
use Rattle.writer_model.specs.declared.Writer.{Writer}
use Rattle.model.specs.Lists.{over, over_at}
use Rattle.model.specs.Rules.{Rule, ◌unless◌, Answer, Check, check, ◌then◌, ◌gives◌, leaves}
use Rattle.model.specs.Image.{Node, Tree, nodes_of, parent, header_size, record_size, record_at}
use Rattle.model.specs.Header.{max_length, max_nodes, max_words}
use Rattle.model.specs.Records.{parent_lawful, table_check}
use Rattle.writer_model.specs.After.{rules_after}
use Rattle.model.specs.Bytes.{le_bytes, all_bytes}
use Rattle.model.specs.Build.{header_words}

-- what is added: a node, its texts as given
pub record Addition : Type 0 where
  pub name : List ℕ
  pub label : List ℕ
  pub data_type : List ℕ
  pub dimensions : List ℕ
  pub parent : ℕ
  pub bytes : List ℕ

-- what is added, by its parts
abbrev pub addition : List ℕ → List ℕ → List ℕ → List ℕ → ℕ → List ℕ → Addition
addition name label data_type_of dimensions parent bytes =
    record { name = name; label = label; data_type = data_type_of; dimensions = dimensions; parent = parent; bytes = bytes }

-- "Room needed is 32 + 84N + 8D + data length"
unfoldable pub room_for : ℕ → ℕ → ℕ → ℕ
room_for n d x = header_size + record_size * n + 8 * d + x

unfoldable pub needed_room : Writer → ℕ
needed_room s = room_for s.nodes s.words s.bytes

-- "starting gives 4, 5, 1 for a total above the limit, 46"
unfoldable pub start_check : ℕ → ℕ → ℕ → ℕ → Check
start_check n d x room =
    check 0
    (4 unless (leb 1 n && leb n max_nodes)
    ∷ 5 unless leb d max_words
    ∷ 1 unless leb (room_for n d x) max_length
    ∷ 46 unless leb (room_for n d x) room
    ∷ [])

unfoldable pub started : ℕ → ℕ → ℕ → Writer
started n d x = record { nodes = n; words = d; bytes = x; node = 0; word = 0; byte = 0 }

unfoldable pub start_answer : ℕ → ℕ → ℕ → ℕ → Answer Writer
start_answer n d x room = start_check n d x room gives started n d x

-- "After a start the needed room holds the header and zeros"
unfoldable pub blank_image : ℕ → ℕ → ℕ → List ℕ
blank_image n d x = all_bytes 4 (header_words n d x) ++ replicate (record_size * n + 8 * d + x) 0

unfoldable pub start_memory : ℕ → ℕ → ℕ → List ℕ → List ℕ
start_memory n d x room = leaves (start_check n d x (length room)) room (over room (blank_image n d x))

-- a text in its field, padded right with blanks; one of more than 32 bytes has no field, and is unlawful by rules 9 and 10
unfoldable pub padded : List ℕ → List ℕ
padded s = cond (leb (length s) 32) (s ++ replicate (32 - length s) 32) []

-- a data type has two bytes; any other has no field, and is none of the eleven
unfoldable pub type_field : List ℕ → List ℕ
type_field s = cond (eqb (length s) 2) s []

-- the node as its record is to hold it: the running sums are those of the nodes added
unfoldable pub added_node : Writer → Addition → Node
added_node s a =
    record {
      name = padded a.name;
      label = padded a.label;
      data_type = type_field a.data_type;
      rank = length a.dimensions;
      first_word = s.word;
      parent = a.parent;
      data_at = s.byte;
      data_size = length a.bytes;
    }

-- "judged against the records then in the room": these, and this one. Of the words only its own are looked at, at their place; data bytes are not.
unfoldable pub tree_with : Writer → Addition → List ℕ → Tree
tree_with s a room =
    record {
      count = suc s.node;
      nodes = nodes_of s.node (drop header_size room) ++ added_node s a ∷ [];
      word_total = s.words;
      words = replicate (8 * s.word) 0 ++ all_bytes 8 a.dimensions;
      area_at = 0;
      byte_total = s.bytes;
      bytes = [];
    }

-- "7 also if a parent above breaks it": node i and all above it. A lawful parent has a lower number, so there are at most d where i ≤ d.
unfoldable pub line_lawful : Tree → ℕ → ℕ → Bool
line_lawful t zero i = parent_lawful t i
line_lawful t (suc d) i = let above = line_lawful t d (parent t i) in parent_lawful t i && (eqb i 0 || above)

-- rules 7 to 17 of the node, as of a record in an image, but by the running sums; the first 7 is for the node and all above it
unfoldable pub addition_rules : Tree → Writer → List Rule
addition_rules t s = 7 unless line_lawful t s.node s.node ∷ rules_after t s.word s.byte s.node

-- "adding gives 46 for a room now too short, 50 after N nodes, 7 to 17 for that node"
unfoldable pub add_check : Writer → Addition → List ℕ → Check
add_check s a room =
    check 0 (46 unless leb (needed_room s) (length room) ∷ 50 unless ltb s.node s.nodes ∷ [])
    then check s.node (addition_rules (tree_with s a room) s)

unfoldable pub next_state : Writer → Addition → Writer
next_state s a =
    record {
      nodes = s.nodes;
      words = s.words;
      bytes = s.bytes;
      node = suc s.node;
      word = s.word + length a.dimensions;
      byte = s.byte + length a.bytes;
    }

unfoldable pub add_answer : Writer → Addition → List ℕ → Answer Writer
add_answer s a room = add_check s a room gives next_state s a

-- a record's 84 bytes
unfoldable pub record_bytes : Node → List ℕ
record_bytes n =
    n.name
    ++ n.label
    ++ n.data_type
    ++ le_bytes 2 n.rank
    ++ le_bytes 4 n.first_word
    ++ le_bytes 4 n.parent
    ++ le_bytes 4 n.data_at
    ++ le_bytes 4 n.data_size

-- where its words and its data go
unfoldable pub words_place : Writer → ℕ
words_place s = header_size + record_size * s.nodes + 8 * s.word

unfoldable pub bytes_place : Writer → ℕ
bytes_place s = header_size + record_size * s.nodes + 8 * s.words + s.byte

-- "writes only its own record, words and data"
unfoldable pub with_node : Writer → Addition → List ℕ → List ℕ
with_node s a room =
    over_at (bytes_place s)
    (over_at (words_place s) (over_at (record_at s.node) room (record_bytes (added_node s a))) (all_bytes 8 a.dimensions))
    a.bytes

unfoldable pub add_memory : Writer → Addition → List ℕ → List ℕ
add_memory s a room = leaves (add_check s a room) room (with_node s a room)

-- "finishing gives 46, 51 before N nodes, then rules 1 to 18", of the needed room and nothing past it. It writes nothing; the length is answered.
unfoldable pub finish_check : Writer → List ℕ → Check
finish_check s room =
    check 0 (46 unless leb (needed_room s) (length room) ∷ 51 unless leb s.nodes s.node ∷ [])
    then table_check (take (needed_room s) room)

unfoldable pub finish_answer : Writer → List ℕ → Answer ℕ
finish_answer s room = finish_check s room gives needed_room s
