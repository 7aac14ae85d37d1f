-- Demand 3: what an acceptance buys. One claim about every list of corner reads with a zone's section entries.
-- The image decides: the right sides speak of its nodes, by the definitions of the element rules, never of an entry's fields.
use Rattle.std.specs.Prelude.{ℕ, suc, ◌+◌, ◌*◌, ◌-◌, ◌≤◌, ◌<◌, ◌≡◌, true, List, ◌++◌, ◌↔◌, length, get_or, drop, ℤ, pos, nat_abs, Result}
use Rattle.model.specs.declared.Rejection.{Rejection}
use Rattle.model.specs.Lists.{count_from}
use Rattle.model.specs.Bytes.{signed}
use Rattle.model.specs.Rules.{rejected, answer, rejection}
use Rattle.model.specs.Image.{Tree, tree_of, width}
use Rattle.model.specs.Containment.{section_of, is_zone}
use Rattle.model.specs.Values.{vertex_size, range_of, offsets_of, connectivity_of}
use Rattle.model.specs.Elements.{MIXED, NGON, NFACE, element_type_of, first_element, last_element, element_count, start_offset, has_offsets, element_start, element_size}
use Rattle.model.specs.Elements.{layout_of, own_type, corner_reference}
use Rattle.model.specs.Validation.{Counts, validation}
use Rattle.model.specs.Sections.{entry_length, section_nodes, entry, section_entries, all_numbers, section_numbers_memory}
use Rattle.model.specs.Answers.{corner_tells}
use Rattle.model.specs.Reads.{section_at, ReadState, Request, ReadMade, IsRead, ReadRun, AllOf}

-- a zone's validated sections: how many, and the node of the k-th, counted from 0
abbrev pub section_count : Tree → ℕ → ℕ
section_count t z = count_from (section_of t z) t.count 0

abbrev pub section_node : Tree → ℕ → ℕ → ℕ
section_node t z k = get_or (section_nodes t z) k 0

-- what is given: the image, and a lent list that begins with the zone's section entries, eleven numbers each
abbrev pub given : List ℕ → ℕ → List ℕ → ReadState
given b z rest = record { image = b; entries = all_numbers (section_entries (tree_of b) z) ++ rest }

-- of the zone's k-th section, as the image stores it: an element in its ElementRange, an element's own type, its size, a corner of it, the number stored
-- there. The size is end − start; in an accepted image an element starts before it ends (rule 31, and a fixed type has nodes), so the difference is exact
-- (`SizeExact`). In a MIXED section it is the node count of the element's own type, and 1 + size is end − start (rule 38).
module _ (t : Tree) (z k : ℕ) where
  abbrev pub InSection : ℕ → Type 0
  InSection element = (first_element t (section_node t z k) ≤ element) × (element ≤ last_element t (section_node t z k))

  abbrev pub type_in : ℕ → ℕ
  type_in element = own_type (layout_of t (section_node t z k)) (element - first_element t (section_node t z k))

  abbrev pub size_in : ℕ → ℕ
  size_in element = element_size t (section_node t z k) (element - first_element t (section_node t z k))

  abbrev pub IsCornerOf : ℕ → ℕ → Type 0
  IsCornerOf element corner = (1 ≤ corner) × (corner ≤ size_in element)

  abbrev pub stored_at : ℕ → ℕ → ℤ
  stored_at element corner =
      signed (width t (connectivity_of t (section_node t z k)))
      (corner_reference t (section_node t z k) (element - first_element t (section_node t z k)) corner)

  pub record SizeExact (element : ℕ) : Type 0 where
    pub not-empty : 1 ≤ size_in element
    pub to_end : (element_type_of t (section_node t z k) ≡ MIXED → ⊥)
        → element_start t (section_node t z k) (element - first_element t (section_node t z k)) + size_in element
        ≡ element_start t (section_node t z k) (suc (element - first_element t (section_node t z k)))
    pub mixed-to-end : element_type_of t (section_node t z k) ≡ MIXED
        → element_start t (section_node t z k) (element - first_element t (section_node t z k)) + (1 + size_in element)
        ≡ element_start t (section_node t z k) (suc (element - first_element t (section_node t z k)))

-- "A node number so read lies from 1 to VertexSize."
pub record NodeNumber (t : Tree) (z : ℕ) (n : ℤ) : Type 0 where
  pub node : ℕ
  pub number_is : n ≡ pos node
  pub from_one : 1 ≤ node
  pub to_vertex_size : node ≤ vertex_size t z 0

-- "type, range, offsets and connectivity, signed, in their own widths" (document 01). None of these is negative, so its bits are its value: a section's
-- type, range and start offsets, the own types of the elements of a MIXED section, VertexSize
pub record NoneNegative (t : Tree) (z s : ℕ) : Type 0 where
  pub type-is : signed (width t s) (element_type_of t s) ≡ pos (element_type_of t s)
  pub first-is : signed (width t (range_of t s)) (first_element t s) ≡ pos (first_element t s)
  pub last-is : signed (width t (range_of t s)) (last_element t s) ≡ pos (last_element t s)
  pub offset-is : has_offsets (element_type_of t s) ≡ true → (i : ℕ) → i ≤ element_count t s → signed (width t (offsets_of t s)) (start_offset t s i) ≡ pos (start_offset t s i)
  pub own-type-is : element_type_of t s ≡ MIXED → (i : ℕ) → i < element_count t s
      → signed (width t (connectivity_of t s)) (own_type (layout_of t s) i) ≡ pos (own_type (layout_of t s) i)
  pub vertex_size-is : signed (width t z) (vertex_size t z 0) ≡ pos (vertex_size t z 0)

module _ (b : List ℕ) (z : ℕ) (rest : List ℕ) where
  -- "the section entries given for that zone, one for each of its judged sections"; "a zone's k-th entry is for its k-th judged Elements_t child"
  pub record OneForEach : Type 0 where
    -- the list of nodes is as long as there are such sections, and so is the list of entries
    pub nodes_counted : length (section_nodes (tree_of b) z) ≡ section_count (tree_of b) z
    pub numbers_counted : length (all_numbers (section_entries (tree_of b) z)) ≡ entry_length * section_count (tree_of b) z
    -- each node of the list is one, in node order; each one is in the list
    pub each-is : (k : ℕ) → k < section_count (tree_of b) z
        → (section_node (tree_of b) z k < (tree_of b).count) × (section_of (tree_of b) z (section_node (tree_of b) z k) ≡ true)
    pub in_order : (j k : ℕ) → j < k → k < section_count (tree_of b) z → section_node (tree_of b) z j < section_node (tree_of b) z k
    pub each-listed : (s : ℕ) → s < (tree_of b).count → section_of (tree_of b) z s ≡ true
        → (k : ℕ) × (k < section_count (tree_of b) z) × (section_node (tree_of b) z k ≡ s)
    -- the k-th entry is the k-th node's
    pub each-entry : (k : ℕ) → k < section_count (tree_of b) z → section_at (given b z rest).entries k ≡ entry (tree_of b) (section_node (tree_of b) z k)

  -- "A face number's magnitude lies in the range of exactly one of the entries, a face section's, and that face's corners can all be read in turn."
  pub record FaceNumber (f : ℕ) : Type 0 where
    pub which : ℕ
    pub listed : which < section_count (tree_of b) z
    pub in_range_lem : InSection (tree_of b) z which f
    pub no_other : (k : ℕ) → k < section_count (tree_of b) z → InSection (tree_of b) z k f → k ≡ which
    pub face-section : element_type_of (tree_of b) (section_node (tree_of b) z which) ≡ NGON
    -- it has a corner (rule 31)
    pub has-corner : 1 ≤ size_in (tree_of b) z which f
    -- a read of any of its corners finds the given state and leaves it for the next one, and answers the number stored there
    pub corners_read : (c : ℕ) → IsCornerOf (tree_of b) z which f c → (m : ReadMade) → IsRead m → m.found ≡ given b z rest
        → m.asked ≡ record { which = which; element = f; corner = c }
        → (m.left ≡ given b z rest) × (corner_tells m.answered ≡ answer (stored_at (tree_of b) z which f c))

  -- what a read with the k-th entry answers
  pub record ReadAnswers (k element corner : ℕ) (r : Result ℤ Rejection) : Type 0 where
    -- "meets 41 exactly when the element number is outside the range of the entry's section"
    pub meets_41 : (corner_tells r ≡ rejected (rejection 41 0)) ↔ (InSection (tree_of b) z k element → ⊥)
    -- "and 42 exactly when it is inside and the corner is outside 1 to that element's size"
    pub meets_42 : (corner_tells r ≡ rejected (rejection 42 0)) ↔ (InSection (tree_of b) z k element × (IsCornerOf (tree_of b) z k element corner → ⊥))
    -- "Refusal 43 never comes"
    pub never_43 : (why : Rejection) → corner_tells r ≡ rejected why → why.rule ≡ 43 → ⊥
    -- "Every other read answers the number stored at that corner, from that section's own connectivity bytes."
    pub number-stored : InSection (tree_of b) z k element → IsCornerOf (tree_of b) z k element corner
        → corner_tells r ≡ answer (stored_at (tree_of b) z k element corner)
    -- "corners of type 23 are face numbers, others node numbers" (document 01); a magnitude is the number's absolute value
    pub node-number : (element_type_of (tree_of b) (section_node (tree_of b) z k) ≡ NFACE → ⊥) → (n : ℤ) → corner_tells r ≡ answer n → NodeNumber (tree_of b) z n
    pub face-number : element_type_of (tree_of b) (section_node (tree_of b) z k) ≡ NFACE → (n : ℤ) → corner_tells r ≡ answer n → FaceNumber (nat_abs n)

  -- "each read in it finds and leaves image and entries as they were given"
  pub record ReadHolds (m : ReadMade) : Type 0 where
    pub finds_given : m.found ≡ given b z rest
    pub leaves-given : m.left ≡ given b z rest
    pub read_answers : ReadAnswers m.asked.which m.asked.element m.asked.corner m.answered

  -- a read with one of the entries given
  abbrev pub Listed : Request → Type 0
  Listed q = q.which < section_count (tree_of b) z

  -- "any list of corner reads of that image with these entries, whatever the element and corner numbers, in any order, refused reads included"
  pub record Claim3 : Type 0 where
    pub one_for_each : OneForEach
    pub none-negative : (k : ℕ) → k < section_count (tree_of b) z → NoneNegative (tree_of b) z (section_node (tree_of b) z k)
    pub sizes_exact : (k : ℕ) → k < section_count (tree_of b) z → (element : ℕ) → InSection (tree_of b) z k element → SizeExact (tree_of b) z k element
    pub every_read : (qs : List Request) → AllOf Listed qs → (ms : List ReadMade) (end : ReadState) → ReadRun (given b z rest) qs ms end → AllOf ReadHolds ms
    -- the claim is not empty: every list of reads has a run
    pub some_run : (qs : List Request) → (ms : List ReadMade) × ReadRun (given b z rest) qs ms (given b z rest)

-- "Take an image accepted under demand 2, a zone of it and the section entries given for that zone"
abbrev pub Demand3 : Type 0
Demand3 =
    (b : List ℕ) (c : Counts) → validation b ≡ answer c → (z : ℕ) → is_zone (tree_of b) z ≡ true → (rest : List ℕ) → Claim3 b z rest

-- The call that gives the entries, where it answers a count: that of the zone's sections. The list that it leaves is one that the claim speaks of.
pub record EntriesGiven (b : List ℕ) (z : ℕ) (out : List ℕ) (n : ℕ) : Type 0 where
  pub count-is : n ≡ section_count (tree_of b) z
  pub list_is : section_numbers_memory b z out ≡ (given b z (drop (length (all_numbers (section_entries (tree_of b) z))) out)).entries
  pub claim : Claim3 b z (drop (length (all_numbers (section_entries (tree_of b) z))) out)
