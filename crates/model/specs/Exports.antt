-- The C interface. Every export answers a rule, 0 where there is none. The other numbers of its answer are 64-bit words in lent bytes, little-endian, one
-- after the other; where these are too short it is refused with 46 and nothing at all is written.
use Rattle.std.specs.Prelude.{ℕ, ◌*◌, ◌≤◌, ◌≡◌, Bool, cond, ◌&&◌, List, [], ◌∷◌, length, leb, ltb, ℤ}
use Rattle.std.specs.Int.{w64}
use Rattle.std.proofs.Common.{of_z}
use Rattle.model.specs.declared.Section.{Section}
use Rattle.model.specs.Lists.{over}
use Rattle.model.specs.Bytes.{le_bytes, all_bytes, numbers}
use Rattle.model.specs.Rules.{◌unless◌, Answer, rejected, answer, Check, check, ◌then◌, leaves}
use Rattle.model.specs.Validation.{Counts, validation}
use Rattle.model.specs.NameBytes.{name_bytes_answer}
use Rattle.model.specs.Path.{path_answer}
use Rattle.model.specs.DataSize.{Sizes, data_size_answer}
use Rattle.model.specs.Sections.{entry_length, sections_answer}
use Rattle.model.specs.Corner.{corner_answer}
use Rattle.model.specs.ArrayValue.{Value, whole, single, double, value_answer}
use Rattle.model.specs.FaceUsage.{usage_answer}
use Rattle.model.specs.ParentElements.{FaceParents, parents_answer, agreement_answer}
use Rattle.model.specs.Reads.{section_at}
use Rattle.model.specs.ReadList.{rule_of}
use Rattle.model.specs.ElementCorners.{element_corners_answer, element_corners_memory}
use Rattle.model.specs.OwnType.{own_type_answer}

-- The words of an answer: the node and the entry, 0 where no rule names one, then the values, 0 beside a rule.
-- nodes validated, nodes skipped, zones, sections
unfoldable pub validation_words : Answer Counts → List ℕ
validation_words (rejected r) = r.node ∷ r.entry ∷ 0 ∷ 0 ∷ 0 ∷ 0 ∷ []
validation_words (answer c) = 0 ∷ 0 ∷ c.validated ∷ c.skipped ∷ c.zones ∷ c.sections ∷ []

-- a count
unfoldable pub count_words : Answer ℕ → List ℕ
count_words (rejected r) = r.node ∷ r.entry ∷ 0 ∷ []
count_words (answer n) = 0 ∷ 0 ∷ n ∷ []

-- the element of 45, the count of faces
unfoldable pub usage_words : Answer ℕ → List ℕ
usage_words (rejected r) = r.node ∷ r.entry ∷ r.element ∷ 0 ∷ []
usage_words (answer n) = 0 ∷ 0 ∷ 0 ∷ n ∷ []

-- the two parents
unfoldable pub parent_words : Answer FaceParents → List ℕ
parent_words (rejected r) = r.node ∷ r.entry ∷ 0 ∷ 0 ∷ []
parent_words (answer p) = 0 ∷ 0 ∷ p.first ∷ p.second ∷ []

-- the element of 45, then 1 where the parents agree, 0 where they do not
unfoldable pub agreement_words : Answer Bool → List ℕ
agreement_words (rejected r) = r.node ∷ r.entry ∷ r.element ∷ 0 ∷ []
agreement_words (answer y) = 0 ∷ 0 ∷ 0 ∷ cond y 1 0 ∷ []

-- kind (1 whole, 2 single, 3 double), bits; a whole number's are its two's complement at 64 bits
unfoldable pub value_words : Answer Value → List ℕ
value_words (rejected r) = r.node ∷ r.entry ∷ 0 ∷ 0 ∷ []
value_words (answer (whole n)) = 0 ∷ 0 ∷ 1 ∷ of_z w64 n ∷ []
value_words (answer (single bits)) = 0 ∷ 0 ∷ 2 ∷ bits ∷ []
value_words (answer (double bits)) = 0 ∷ 0 ∷ 3 ∷ bits ∷ []

-- the number of directions, the size in each
unfoldable pub size_words : Answer Sizes → List ℕ
size_words (rejected r) = r.node ∷ r.entry ∷ 0 ∷ 0 ∷ 0 ∷ 0 ∷ []
size_words (answer s) = 0 ∷ 0 ∷ s.directions ∷ s.i ∷ s.j ∷ s.k ∷ []

-- 46 unless lent bytes have room for n words
unfoldable pub words_fit : ℕ → List ℕ → Check
words_fit n out = check 0 (46 unless leb (8 * n) (length out) ∷ [])

-- An export with n words of answer: the rule, the bytes of the answer, and other lent memory, where the call leaves `new` in it.
unfoldable pub export_rule : {A : Type 0} → ℕ → List ℕ → Answer A → ℕ
export_rule n out a = rule_of (words_fit n out then a)

unfoldable pub export_bytes : List ℕ → List ℕ → List ℕ
export_bytes out words = leaves (words_fit (length words) out) out (over out (all_bytes 8 words))

unfoldable pub export_memory : {B : Type 0} → ℕ → List ℕ → List B → List B → List B
export_memory n out memory new = leaves (words_fit n out) memory new

-- the rules that tell an entry
unfoldable pub tells_entry : ℕ → Bool
tells_entry rule = leb 34 rule && leb rule 37

-- No refusal has the number 0, so an export's 0 says that the call answered; a refusal has an entry exactly where its rule tells one.
abbrev pub Numbered : {A : Type 0} → Answer A → Type 0
Numbered (rejected r) = (1 ≤ r.rule) × (ltb 0 r.entry ≡ tells_entry r.rule)
Numbered (answer x) = Unit {0}

pub record AllNumbered (b : List ℕ) : Type 0 where
  pub of_validation : Numbered (validation b)
  pub of_sections : (z room : ℕ) → Numbered (sections_answer b z room)
  pub of_corner : (e : Section) (element corner : ℕ) → Numbered (corner_answer b e element corner)
  pub of_element : (e : Section) (element room : ℕ) → Numbered (element_corners_answer b e element room)
  pub of_type_lem : (e : Section) (element : ℕ) → Numbered (own_type_answer b e element)
  pub of_usage : (z room : ℕ) → Numbered (usage_answer b z room)
  pub of_parents : (z f : ℕ) → Numbered (parents_answer b z f)
  pub of_agreement : (z room : ℕ) → Numbered (agreement_answer b z room)
  pub of_name-bytes : Numbered (name_bytes_answer b)
  pub of_path : (i room : ℕ) → Numbered (path_answer b i room)
  pub of_sizes : (i : ℕ) → Numbered (data_size_answer b i)
  pub of_value : (i k : ℕ) → Numbered (value_answer b i k)

-- A section entry in bytes: its eleven words.
abbrev pub section_size : ℕ
section_size = 8 * entry_length

unfoldable pub section_in : List ℕ → Section
section_in s = section_at (numbers 8 entry_length s) 0

-- 46 unless the section is as long as that and lent bytes have room for a word
unfoldable pub read_fits : ℕ → List ℕ → List ℕ → Check
read_fits n section out = check 0 (46 unless leb n (length section) ∷ 46 unless leb 8 (length out) ∷ [])

-- one corner: the corner reader's answer
unfoldable pub corner_exported : List ℕ → List ℕ → ℕ → ℕ → List ℕ → Answer ℤ
corner_exported b section element corner out = read_fits section_size section out then corner_answer b (section_in section) element corner

-- its number in front of the lent bytes, two's complement at 64 bits; a refusal leaves them as they were
unfoldable pub number_bytes : Answer ℤ → List ℕ → List ℕ
number_bytes (rejected r) out = out
number_bytes (answer n) out = over out (le_bytes 8 (of_z w64 n))

-- the contract: what it finds, the rule that it answers, what it leaves
pub record CornerExport (image section : List ℕ) (element corner : ℕ) (number : List ℕ) (r : ℕ) (image' section' number' : List ℕ) : Type 0 where
  pub rule-is : r ≡ rule_of (corner_exported image section element corner number)
  pub number_is : number' ≡ number_bytes (corner_exported image section element corner number) number
  pub image-kept : image' ≡ image
  pub section-kept : section' ≡ section

-- all corners of an element, of the eleven numbers of a section entry: how many
unfoldable pub element_exported : List ℕ → List ℕ → ℕ → ℕ → List ℕ → Answer ℕ
element_exported b section element room out = read_fits entry_length section out then element_corners_answer b (section_at section 0) element room

-- an element's size, or its type, in one word: 0 beside a rule
unfoldable pub count_word : Answer ℕ → ℕ
count_word (rejected r) = 0
count_word (answer n) = n

pub record ElementExport (image section : List ℕ) (element : ℕ) (out : List ℤ) (size : List ℕ) (r : ℕ)
    (image' section' : List ℕ) (out' : List ℤ) (size' : List ℕ) : Type 0 where
  pub rule-is : r ≡ rule_of (element_exported image section element (length out) size)
  pub out_is : out' ≡ leaves (read_fits entry_length section size) out (element_corners_memory image (section_at section 0) element out)
  pub size_is : size' ≡ leaves (read_fits entry_length section size) size (over size (le_bytes 8 (count_word (element_exported image section element (length out) size))))
  pub image-kept : image' ≡ image
  pub section-kept : section' ≡ section

-- an element's own type, of the eleven numbers of a section entry
unfoldable pub type_exported : List ℕ → List ℕ → ℕ → List ℕ → Answer ℕ
type_exported b section element out = read_fits entry_length section out then own_type_answer b (section_at section 0) element

pub record TypeExport (image section : List ℕ) (element : ℕ) (out : List ℕ) (r : ℕ) (image' section' out' : List ℕ) : Type 0 where
  pub rule-is : r ≡ rule_of (type_exported image section element out)
  pub type-is : out' ≡ leaves (read_fits entry_length section out) out (over out (le_bytes 8 (count_word (type_exported image section element out))))
  pub image-kept : image' ≡ image
  pub section-kept : section' ≡ section
