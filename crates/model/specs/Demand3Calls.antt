-- Demand 3 reaches the calls that ship: section entries as structs, all corners of an element at once, an element's own type, and the exports for C.
use Rattle.std.specs.Prelude.{ℕ, ◌*◌, ◌-◌, ◌≤◌, ◌<◌, ◌≡◌, List, [], ◌∷◌, ◌↔◌, length, get_or, take, drop, ℤ, pos, Result}
use Rattle.model.specs.declared.Rejection.{Rejection}
use Rattle.model.specs.declared.Section.{Section}
use Rattle.model.specs.Bytes.{le, numbers, signed}
use Rattle.model.specs.Rules.{Answer, rejected, answer, rejection}
use Rattle.model.specs.Image.{tree_of}
use Rattle.model.specs.Sections.{entry_length, sections_memory}
use Rattle.model.specs.Corner.{corner_answer}
use Rattle.model.specs.Reads.{CornerRead, section_at, ReadState, Request, ReadMade, IsRead}
use Rattle.model.specs.ReadList.{corner_from}
use Rattle.model.specs.Exports.{section_size, CornerExport}
use Rattle.model.specs.Demand3.{section_count, given, InSection, type_in, size_in, IsCornerOf, stored_at, Claim3}

-- The structs that the call for them leaves, where it answers a count: the k-th is the entry that the claim speaks of, and the corner reader on it
-- makes a read with the k-th entry.
pub record StructsGiven (b : List ℕ) (z : ℕ) (out : List Section) (n : ℕ) : Type 0 where
  pub count-is : n ≡ section_count (tree_of b) z
  pub each_struct : (k : ℕ) → k < section_count (tree_of b) z → (none : Section) (rest : List ℕ)
      → get_or (sections_memory b z out) k none ≡ section_at (given b z rest).entries k
  pub is_read : (k : ℕ) → k < section_count (tree_of b) z → (none : Section) (rest : List ℕ) (element corner : ℕ) (r : Result ℤ Rejection) (b' : List ℕ)
      → CornerRead b (get_or (sections_memory b z out) k none) element corner r b'
      → IsRead
      (record {
        found = given b z rest;
        asked = record { which = k; element = element; corner = corner };
        answered = r;
        left = record { image = b'; entries = (given b z rest).entries };
      })
  pub claim : (rest : List ℕ) → Claim3 b z rest

-- All corners of an element in one call, with the k-th entry: a is its answer, out and out' the lent memory before and afterwards.
pub record ElementAnswers (b : List ℕ) (z : ℕ) (rest : List ℕ) (k element : ℕ) (a : Answer ℕ) (out out' : List ℤ) : Type 0 where
  -- 41 exactly when the element is outside the section's range, 46 exactly when it is inside and the room is less than its size, 43 never
  pub meets_41 : (a ≡ rejected (rejection 41 0)) ↔ (InSection (tree_of b) z k element → ⊥)
  pub meets_46 : (a ≡ rejected (rejection 46 0)) ↔ (InSection (tree_of b) z k element × (length out < size_in (tree_of b) z k element))
  pub never_43 : (why : Rejection) → a ≡ rejected why → why.rule ≡ 43 → ⊥
  -- a refusal leaves the memory as it was
  pub refused_kept : (why : Rejection) → a ≡ rejected why → out' ≡ out
  -- every other call answers the element's size
  pub size-answered : InSection (tree_of b) z k element → size_in (tree_of b) z k element ≤ length out → a ≡ answer (size_in (tree_of b) z k element)
  -- and leaves in front, for each corner, the number stored there, which is what a read of that corner answers
  pub numbers-stored : (n : ℕ) → a ≡ answer n → (c : ℕ) → IsCornerOf (tree_of b) z k element c
      → (get_or out' (c - 1) (pos 0) ≡ stored_at (tree_of b) z k element c)
      × (corner_answer b (section_at (given b z rest).entries k) element c ≡ answer (get_or out' (c - 1) (pos 0)))
  pub rest-kept : (n : ℕ) → a ≡ answer n → drop n out' ≡ drop n out

-- An element's own type, with the k-th entry.
pub record TypeAnswers (b : List ℕ) (z k element : ℕ) (a : Answer ℕ) : Type 0 where
  -- 41 exactly when the element is outside the section's range, 43 never; every other call answers the type that the image has for the element
  pub meets_41 : (a ≡ rejected (rejection 41 0)) ↔ (InSection (tree_of b) z k element → ⊥)
  pub never_43 : (why : Rejection) → a ≡ rejected why → why.rule ≡ 43 → ⊥
  pub type-answered : InSection (tree_of b) z k element → a ≡ answer (type_in (tree_of b) z k element)

-- A call of the corner export. The caller has copied the section's bytes from the list that the section call left: their eleven words are the entry asked for.
pub record CornerCall : Type 0 where
  pub found : ReadState
  pub asked : Request
  pub section : List ℕ
  pub number : List ℕ
  pub rule : ℕ
  pub section' : List ℕ
  pub number' : List ℕ
  pub left : ReadState

-- the k-th eleven of a list of numbers, in bytes
pub record Copied (entries : List ℕ) (k : ℕ) (section : List ℕ) : Type 0 where
  pub whole : section_size ≤ length section
  pub words_are : numbers 8 entry_length section ≡ take entry_length (drop (entry_length * k) entries)

pub record IsCornerCall (m : CornerCall) : Type 0 where
  pub copied : Copied m.found.entries m.asked.which m.section
  pub room : 8 ≤ length m.number
  pub exported : CornerExport m.found.image m.section m.asked.element m.asked.corner m.number m.rule m.left.image m.section' m.number'
  -- the list is not lent to the call
  pub entries-kept : m.left.entries ≡ m.found.entries

-- what the caller takes from it: a rule, or the number in the lent bytes
abbrev pub read_made : CornerCall → ReadMade
read_made m =
    record { found = m.found; asked = m.asked; answered = corner_from m.rule (signed 8 (le 8 m.number')); left = m.left }

-- a run of such calls; nobody else writes meanwhile
pub data CallRun : ReadState → List CornerCall → ReadState → Type 0 where
  no_call : {s : ReadState} → CallRun s [] s
  next_call : {m : CornerCall} {ms : List CornerCall} {end : ReadState} → IsCornerCall m → CallRun m.left ms end → CallRun m.found (m ∷ ms) end

-- the same as numbers
pub record CopiedNumbers (entries : List ℕ) (k : ℕ) (section : List ℕ) : Type 0 where
  pub whole : entry_length ≤ length section
  pub numbers_are : take entry_length section ≡ take entry_length (drop (entry_length * k) entries)

-- The export of all corners, with the numbers of the k-th entry: its rule and the number in the lent bytes tell an answer of which all this holds.
pub record ElementCall (b : List ℕ) (z : ℕ) (rest : List ℕ) (k element : ℕ) (out : List ℤ) (r : ℕ) (out' : List ℤ) (size' : List ℕ) : Type 0 where
  pub tells : Answer ℕ
  pub answers : ElementAnswers b z rest k element tells out out'
  pub refused_by : (why : Rejection) → tells ≡ rejected why → r ≡ why.rule
  pub size_is : (n : ℕ) → tells ≡ answer n → (r ≡ 0) × (le 8 size' ≡ n)

-- The export of an element's own type, likewise.
pub record TypeCall (b : List ℕ) (z k element : ℕ) (r : ℕ) (out' : List ℕ) : Type 0 where
  pub tells : Answer ℕ
  pub answers : TypeAnswers b z k element tells
  pub refused_by : (why : Rejection) → tells ≡ rejected why → r ≡ why.rule
  pub type-is : (n : ℕ) → tells ≡ answer n → (r ≡ 0) × (le 8 out' ≡ n)

-- The export of a zone's sections, where it answers rule 0: the third word of its answer is their count, and the list that it leaves is one that the claim
-- speaks of.
pub record SectionsGiven (b : List ℕ) (z : ℕ) (out out' answer' : List ℕ) : Type 0 where
  pub count-is : le 8 (drop 16 answer') ≡ section_count (tree_of b) z
  pub list_is : out' ≡ (given b z (drop (entry_length * section_count (tree_of b) z) out)).entries
  pub claim : Claim3 b z (drop (entry_length * section_count (tree_of b) z) out)
