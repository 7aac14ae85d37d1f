-- Corner reads: the contract of one read, on every input, and runs of a list of reads, one after the other.
use Rattle.std.specs.Prelude.{ℕ, ◌+◌, ◌*◌, ◌/◌, ◌≡◌, List, [], ◌∷◌, length, get_or, ltb, ℤ, Result}
use Rattle.model.specs.declared.Section.{Section}
use Rattle.model.specs.declared.Rejection.{Rejection}
use Rattle.model.specs.Rules.{◌unless◌, Answer, check, ◌then◌}
use Rattle.model.specs.Sections.{entry_length}
use Rattle.model.specs.Corner.{corner_answer}
use Rattle.model.specs.Answers.{corner_tells}

-- the corner reader's contract: the image and the entry that it finds, the element and the corner, its answer, the image that it leaves
pub record CornerRead (image : List ℕ) (e : Section) (element corner : ℕ) (r : Result ℤ Rejection) (image' : List ℕ) : Type 0 where
  pub answers : corner_tells r ≡ corner_answer image e element corner
  pub image-kept : image' ≡ image

-- how many section entries flat numbers hold, and the k-th of them
abbrev pub entries_in : List ℕ → ℕ
entries_in flat = length flat / entry_length

unfoldable pub section_at : List ℕ → ℕ → Section
section_at flat k =
    record {
      node = get_or flat (entry_length * k) 0;
      element_type = get_or flat (entry_length * k + 1) 0;
      first = get_or flat (entry_length * k + 2) 0;
      last = get_or flat (entry_length * k + 3) 0;
      offsets_at = get_or flat (entry_length * k + 4) 0;
      offsets_width = get_or flat (entry_length * k + 5) 0;
      connectivity_at = get_or flat (entry_length * k + 6) 0;
      connectivity_width = get_or flat (entry_length * k + 7) 0;
      connectivity_length = get_or flat (entry_length * k + 8) 0;
      parents_at = get_or flat (entry_length * k + 9) 0;
      parents_width = get_or flat (entry_length * k + 10) 0;
    }

-- a read with the k-th entry of a list: 40 where the list has none, else the corner reader's answer
unfoldable pub read_answer : List ℕ → List ℕ → ℕ → ℕ → ℕ → Answer ℤ
read_answer image entries k element corner =
    check 0 (40 unless ltb k (entries_in entries) ∷ []) then corner_answer image (section_at entries k) element corner

-- its contract: the image and the entries that it finds, what it is asked, its answer, the image and the entries that it leaves
pub record EntryRead (image entries : List ℕ) (k element corner : ℕ) (r : Result ℤ Rejection) (image' entries' : List ℕ) : Type 0 where
  pub answers : corner_tells r ≡ read_answer image entries k element corner
  pub image-kept : image' ≡ image
  pub entries-kept : entries' ≡ entries

-- what a read finds and leaves
pub record ReadState : Type 0 where
  pub image : List ℕ
  pub entries : List ℕ

-- what a read is asked: with which entry of the list, an element number and a corner number
pub record Request : Type 0 where
  pub which : ℕ
  pub element : ℕ
  pub corner : ℕ

-- a read that was made
pub record ReadMade : Type 0 where
  pub found : ReadState
  pub asked : Request
  pub answered : Result ℤ Rejection
  pub left : ReadState

-- it meets the contract of the call
abbrev pub IsRead : ReadMade → Type 0
IsRead m =
    EntryRead m.found.image m.found.entries m.asked.which m.asked.element m.asked.corner m.answered
    m.left.image
    m.left.entries

-- a run of a list of reads from a state to a state. Nobody else writes meanwhile, so each read finds what the one before left.
pub data ReadRun : ReadState → List Request → List ReadMade → ReadState → Type 0 where
  done : {s : ReadState} → ReadRun s [] [] s
  next : {m : ReadMade} {qs : List Request} {ms : List ReadMade} {end : ReadState} → IsRead m → ReadRun m.left qs ms end → ReadRun m.found (m.asked ∷ qs) (m ∷ ms) end

-- each one of a list
pub data AllOf {A : Type 0} (P : A → Type 0) : List A → Type 0 where
  all_none : AllOf P []
  all_more : {x : A} {xs : List A} → P x → AllOf P xs → AllOf P (x ∷ xs)
