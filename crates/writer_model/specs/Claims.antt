-- What the writer promises: two theorems over lists of additions, refused ones among them, and that no call changes the room past what is needed.
use Rattle.std.specs.Prelude.{ℕ, ◌^◌, ◌<◌, ◌≤◌, ◌≡◌, List, [], ◌∷◌, length, take, drop}
use Rattle.model.specs.declared.Rejection.{Rejection}
use Rattle.model.specs.Lists.{over}
use Rattle.model.specs.Rules.{Answer, rejected, answer, passed, leaves}
use Rattle.model.specs.Image.{Tree, tree_of, node, name, label, parent, dimensions, stored, node_count, word_count, data_length}
use Rattle.model.specs.Records.{table_check}
use Rattle.model.specs.ReadList.{values_from}
use Rattle.writer_model.specs.declared.Writer.{Writer}
use Rattle.writer_model.specs.After.{after}
use Rattle.writer_model.specs.Writer.{Addition, room_for, needed_room, padded, start_check, started, start_answer, start_memory, add_check, add_answer, add_memory, next_state, with_node, finish_answer}

-- A run: each call is given the state answered last, and the room as the call before left it. A refusal answers no state and leaves the room.
pub record Draft : Type 0 where
  pub state : Writer
  pub room : List ℕ

unfoldable pub start_draft : ℕ → ℕ → ℕ → List ℕ → Draft
start_draft n d x room = record { state = started n d x; room = start_memory n d x room }

unfoldable pub with_added : Draft → Addition → Draft
with_added w a = record { state = next_state w.state a; room = with_node w.state a w.room }

unfoldable pub draft_of : Draft → List Addition → Draft
draft_of w [] = w
draft_of w (a ∷ rest) =
    let same = draft_of w rest in
    let more = draft_of (with_added w a) rest in
    after (add_check w.state a w.room) same more

-- those of a list that were not refused
unfoldable pub added_of : Draft → List Addition → List Addition
added_of w [] = []
added_of w (a ∷ rest) =
    let same = added_of w rest in
    let more = a ∷ added_of (with_added w a) rest in
    leaves (add_check w.state a w.room) same more

-- a node as it is stored, and as it is read
unfoldable pub as_stored : Addition → Addition
as_stored a =
    record {
      name = padded a.name;
      label = padded a.label;
      data_type = a.data_type;
      dimensions = a.dimensions;
      parent = a.parent;
      bytes = a.bytes;
    }

unfoldable pub all_stored : List Addition → List Addition
all_stored [] = []
all_stored (a ∷ rest) = as_stored a ∷ all_stored rest

unfoldable pub node_read : Tree → ℕ → Addition
node_read t i =
    record {
      name = name t i;
      label = label t i;
      data_type = (node t i).data_type;
      dimensions = dimensions t i;
      parent = parent t i;
      bytes = stored t i;
    }

unfoldable pub nodes_read : Tree → List Addition
nodes_read t = values_from (node_read t) t.count 0

-- each number of a list is below a bound: dimensions are u64, bytes are u8
unfoldable pub Below : ℕ → List ℕ → Type 0
Below m [] = Unit {0}
Below m (y ∷ s) = (y < m) × Below m s

abbrev pub IsWords : List ℕ → Type 0
IsWords = Below (256 ^ 8)

abbrev pub IsBytes : List ℕ → Type 0
IsBytes = Below 256

unfoldable pub AllWords : List Addition → Type 0
AllWords [] = Unit {0}
AllWords (a ∷ rest) = IsWords a.dimensions × AllWords rest

-- "With all N nodes, words and data used and each call given the state answered last, a room not altered becomes a finished image that passes them
-- and reads back to exactly the added nodes"; "bytes beyond it never change"
module _ (n d x : ℕ) (room : List ℕ) (asked : List Addition) where
  abbrev pub draft : Draft
  draft = draft_of (start_draft n d x room) asked

  pub record Written : Type 0 where
    pub finishes : finish_answer draft.state draft.room ≡ answer (room_for n d x)
    pub passes : table_check (take (room_for n d x) draft.room) ≡ passed
    pub reads_back : nodes_read (tree_of (take (room_for n d x) draft.room)) ≡ all_stored (added_of (start_draft n d x room) asked)
    pub length-kept : length draft.room ≡ length room
    pub rest-kept : drop (room_for n d x) draft.room ≡ drop (room_for n d x) room

  abbrev pub Used : Type 0
  Used = (draft.state.node ≡ n) × (draft.state.word ≡ d) × (draft.state.byte ≡ x)

-- the state that the next call is given: the one answered, or the last one where the call was refused
unfoldable pub last_state : Answer Writer → Writer → Writer
last_state (rejected r) s = s
last_state (answer s') s = s'

pub record ReadsBack : Type 0 where
  -- a run is made of the calls
  pub starts : (n d x : ℕ) (room : List ℕ) → start_check n d x (length room) ≡ passed → start_answer n d x (length room) ≡ answer (start_draft n d x room).state
  pub calls : (w : Draft) (a : Addition) (rest : List Addition)
      → draft_of w (a ∷ rest) ≡ draft_of (record { state = last_state (add_answer w.state a w.room) w.state; room = add_memory w.state a w.room }) rest
  pub written : (n d x : ℕ) (room : List ℕ) (asked : List Addition) → AllWords asked → start_check n d x (length room) ≡ passed → Used n d x room asked → Written n d x room asked
  -- "A refused call changes nothing, and a later correct addition succeeds": as if the first had not been asked
  pub as_if_not-asked : (w : Draft) (a : Addition) (r : Rejection) (rest : List Addition) → add_check w.state a w.room ≡ rejected r
      → (draft_of w (a ∷ rest) ≡ draft_of w rest) × (added_of w (a ∷ rest) ≡ added_of w rest)

-- "an image that passes them, read node by node and written again, gives equal bytes", in any room that is long enough; no addition is refused
module _ (b room : List ℕ) where
  abbrev pub blank_draft : Draft
  blank_draft = start_draft (node_count b) (word_count b) (data_length b) room

  abbrev pub second_draft : Draft
  second_draft = draft_of blank_draft (nodes_read (tree_of b))

  pub record Rewritten : Type 0 where
    pub starts : start_check (node_count b) (word_count b) (data_length b) (length room) ≡ passed
    pub none_refused : added_of blank_draft (nodes_read (tree_of b)) ≡ nodes_read (tree_of b)
    pub equal_bytes : second_draft.room ≡ over room b
    pub finishes : finish_answer second_draft.state second_draft.room ≡ answer (length b)

abbrev pub Rewrites : Type 0
Rewrites = (b : List ℕ) → IsBytes b → table_check b ≡ passed → (room : List ℕ) → length b ≤ length room → Rewritten b room

-- "bytes beyond it never change": in any call, on any state; the length of the room stays. Finishing is handed a room that it cannot write.
pub record RoomKept : Type 0 where
  pub start_length : (n d x : ℕ) (room : List ℕ) → length (start_memory n d x room) ≡ length room
  pub start_rest : (n d x : ℕ) (room : List ℕ) → drop (room_for n d x) (start_memory n d x room) ≡ drop (room_for n d x) room
  pub add-length : (s : Writer) (a : Addition) (room : List ℕ) → length (add_memory s a room) ≡ length room
  pub add-rest : (s : Writer) (a : Addition) (room : List ℕ) → drop (needed_room s) (add_memory s a room) ≡ drop (needed_room s) room
