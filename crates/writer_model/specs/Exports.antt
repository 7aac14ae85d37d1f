-- The writer's exports. A state is six numbers of 32 bits, in the order of its fields, which a start and an addition write where they succeed. The
-- answer is words in lent bytes, as of every export; where these or the numbers are too short, it is refused with 46 and nothing at all is written.
use Rattle.std.specs.Prelude.{ℕ, ◌*◌, ◌≡◌, List, [], ◌∷◌, length, get_or, leb}
use Rattle.model.specs.Lists.{over}
use Rattle.model.specs.Bytes.{all_bytes}
use Rattle.model.specs.Rules.{◌unless◌, Answer, rejected, answer, Check, check, ◌then◌, leaves}
use Rattle.model.specs.ReadList.{rule_of}
use Rattle.model.specs.Exports.{count_words, Numbered}
use Rattle.writer_model.specs.declared.Writer.{Writer}
use Rattle.writer_model.specs.Writer.{Addition, start_answer, start_memory, add_answer, add_memory, finish_answer}

abbrev pub state_length : ℕ
state_length = 6

unfoldable pub state_in : List ℕ → Writer
state_in s = record { nodes = get_or s 0 0; words = get_or s 1 0; bytes = get_or s 2 0; node = get_or s 3 0; word = get_or s 4 0; byte = get_or s 5 0 }

unfoldable pub state_numbers : Writer → List ℕ
state_numbers s = s.nodes ∷ s.words ∷ s.bytes ∷ s.node ∷ s.word ∷ s.byte ∷ []

-- 46 unless there are six numbers, and room for n words
unfoldable pub state_fits : ℕ → List ℕ → List ℕ → Check
state_fits n state out = check 0 (46 unless leb state_length (length state) ∷ 46 unless leb (8 * n) (length out) ∷ [])

-- the numbers after a call: those of the state answered; a refusal leaves them
unfoldable pub state_after : Answer Writer → List ℕ → List ℕ
state_after (rejected r) state = state
state_after (answer s) state = over state (state_numbers s)

-- the words of a start or an addition: node and entry
unfoldable pub writing_words : Answer Writer → List ℕ
writing_words (rejected r) = r.node ∷ r.entry ∷ []
writing_words (answer s) = 0 ∷ 0 ∷ []

-- A start and an addition, over what the call tells and the room that it leaves: what they find, the rule that is answered, what they leave.
pub record WritingExport (told : Answer Writer) (left room state out : List ℕ) (r : ℕ) (room' state' out' : List ℕ) : Type 0 where
  pub rule-is : r ≡ rule_of (state_fits 2 state out then told)
  pub room-is : room' ≡ leaves (state_fits 2 state out) room left
  pub state-is : state' ≡ leaves (state_fits 2 state out) state (state_after told state)
  pub answer-is : out' ≡ leaves (state_fits 2 state out) out (over out (all_bytes 8 (writing_words told)))

abbrev pub StartExport : ℕ → ℕ → ℕ → List ℕ → List ℕ → List ℕ → ℕ → List ℕ → List ℕ → List ℕ → Type 0
StartExport n d x room = WritingExport (start_answer n d x (length room)) (start_memory n d x room) room

abbrev pub AddExport : Addition → List ℕ → List ℕ → List ℕ → ℕ → List ℕ → List ℕ → List ℕ → Type 0
AddExport a room state = WritingExport (add_answer (state_in state) a room) (add_memory (state_in state) a room) room state

-- Finishing: three words, node, entry and the length.
pub record FinishExport (room state out : List ℕ) (r : ℕ) (out' : List ℕ) : Type 0 where
  pub rule-is : r ≡ rule_of (state_fits 3 state out then finish_answer (state_in state) room)
  pub answer-is : out' ≡ leaves (state_fits 3 state out) out (over out (all_bytes 8 (count_words (finish_answer (state_in state) room))))

-- no refusal of the three has the number 0, and an entry stands only where its rule tells one
pub record WriterNumbered : Type 0 where
  pub of_start : (n d x room : ℕ) → Numbered (start_answer n d x room)
  pub of_add : (s : Writer) (a : Addition) (room : List ℕ) → Numbered (add_answer s a room)
  pub of_finish : (s : Writer) (room : List ℕ) → Numbered (finish_answer s room)
