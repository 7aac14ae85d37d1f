-- Document 01, "Sections", and document 02, §2, §4, §6 and §7: rules 27 to 33 and 38 of a section, then 34 to 37 of the entries of its connectivity, then 39
-- of the parents of its faces.
use Rattle.std.specs.Prelude.{ℕ, suc, ◌+◌, ◌*◌, ◌-◌, Bool, cond, not, ◌&&◌, ◌||◌, List, [], ◌∷◌, eqb, leb, ltb}
use Rattle.model.specs.Lists.{◌⊃◌, ◌has◌, row, some_from, every_from, seek_from}
use Rattle.model.specs.Bytes.{below, magnitude, text}
use Rattle.model.specs.Rules.{Rule, ◌unless◌, Check, check, ◌at_entry◌, check_from}
use Rattle.model.specs.Image.{Tree, parent, width, number, I4, I8}
use Rattle.model.specs.Containment.{DataArray, section_of, child, found, or_missing}
use Rattle.model.specs.Values.{typed, shaped, size, cell_dimension, vertex_size, type_lawful, value_lawful, range_of, offsets_of, connectivity_of}

abbrev pub MIXED : ℕ
MIXED = 20

abbrev pub NGON : ℕ
NGON = 22

abbrev pub NFACE : ℕ
NFACE = 23

-- nodes per element by type; 0 for a type with no fixed number
unfoldable pub nodes_per : ℕ → ℕ
nodes_per e =
    row e 0
    (2 has 1 ∷ 3 has 2 ∷ 4 has 3 ∷ 5 has 3 ∷ 6 has 6 ∷ 7 has 4 ∷ 8 has 8 ∷ 9 has 9 ∷ 10 has 4 ∷ 11 has 10 ∷ 12 has 5 ∷ 13 has 14
    ∷ 14 has 6 ∷ 15 has 15 ∷ 16 has 18 ∷ 17 has 8 ∷ 18 has 20 ∷ 19 has 27 ∷ 21 has 13 ∷ [])

-- the types whose elements are found by start offsets
unfoldable pub has_offsets : ℕ → Bool
has_offsets e = eqb e MIXED || eqb e NGON || eqb e NFACE

-- the types that are taken
unfoldable pub taken : ℕ → Bool
taken e = ltb 0 (nodes_per e) || has_offsets e

-- What places a section's elements: its type, its start offsets and the entries of its connectivity, counted from 0, as their bits. A section of the
-- image has one (`layout_of`), and so has a section entry (`layout_in`): whoever asks for an element's start, type, size or corners asks here.
pub record Layout : Type 0 where
  pub section_type : ℕ
  pub offset : ℕ → ℕ
  pub connectivity : ℕ → ℕ

-- where the k-th element starts, counted from 0; it ends where the next one starts
unfoldable pub start_of : Layout → ℕ → ℕ
start_of l k = cond (has_offsets l.section_type) (l.offset k) (k * nodes_per l.section_type)

-- its own type: in a MIXED section the number that it begins with
unfoldable pub own_type : Layout → ℕ → ℕ
own_type l k = cond (eqb l.section_type MIXED) (l.connectivity (start_of l k)) l.section_type

-- its size: in a MIXED section the nodes of its own type, else end − start
unfoldable pub size_of : Layout → ℕ → ℕ
size_of l k = cond (eqb l.section_type MIXED) (nodes_per (own_type l k)) (start_of l (suc k) - start_of l k)

-- the place of its corner c, counted from 1: in a MIXED section start + c, else start + c − 1
unfoldable pub corner_place : Layout → ℕ → ℕ → ℕ
corner_place l k c = start_of l k + cond (eqb l.section_type MIXED) c (c - 1)

-- a type fits a length: it is of the fixed list, and 1 + its nodes is the length
unfoldable pub fits_length : ℕ → ℕ → Bool
fits_length type length = ltb 0 (nodes_per type) && eqb (1 + nodes_per type) length

-- the own type of the k-th element of a MIXED section fits end − start
unfoldable pub type_fits : Layout → ℕ → Bool
type_fits l k = fits_length (own_type l k) (start_of l (suc k) - start_of l k)

-- a section's type, and the numbers of its elements
unfoldable pub element_type_of : Tree → ℕ → ℕ
element_type_of t s = number t s 0

unfoldable pub first_element : Tree → ℕ → ℕ
first_element t s = number t (range_of t s) 0

unfoldable pub last_element : Tree → ℕ → ℕ
last_element t s = number t (range_of t s) 1

unfoldable pub in_range : Tree → ℕ → ℕ → Bool
in_range t s e = leb (first_element t s) e && leb e (last_element t s)

-- n
unfoldable pub element_count : Tree → ℕ → ℕ
element_count t s = last_element t s - first_element t s + 1

-- start offset k, and entry k of the connectivity, counted from 0, as their bits
unfoldable pub start_offset : Tree → ℕ → ℕ → ℕ
start_offset t s k = number t (offsets_of t s) k

unfoldable pub reference : Tree → ℕ → ℕ → ℕ
reference t s k = number t (connectivity_of t s) k

unfoldable pub connectivity_length : Tree → ℕ → ℕ
connectivity_length t s = size t (connectivity_of t s)

-- the section's layout
unfoldable pub layout_of : Tree → ℕ → Layout
layout_of t s = record { section_type = element_type_of t s; offset = start_offset t s; connectivity = reference t s }

-- start and size of its k-th element, counted from 0, and the number stored at its corner c, counted from 1
unfoldable pub element_start : Tree → ℕ → ℕ → ℕ
element_start t s k = start_of (layout_of t s) k

unfoldable pub element_size : Tree → ℕ → ℕ → ℕ
element_size t s k = size_of (layout_of t s) k

unfoldable pub corner_reference : Tree → ℕ → ℕ → ℕ → ℕ
corner_reference t s k c = reference t s (corner_place (layout_of t s) k c)

-- 28: the range meets that of an earlier section of the zone
unfoldable pub meets : Tree → ℕ → ℕ → Bool
meets t s r = leb (first_element t s) (last_element t r) && leb (first_element t r) (last_element t s)

unfoldable pub overlap : Tree → ℕ → ℕ → Bool
overlap t s r = section_of t (parent t s) r && meets t s r

unfoldable pub overlaps : Tree → ℕ → Bool
overlaps t s = some_from (overlap t s) s 0

-- 29: n + 1 start offsets (absent is length 0), or n × nodes connectivity entries
unfoldable pub lengths_fit : Tree → ℕ → Bool
lengths_fit t s =
    cond (has_offsets (element_type_of t s))
    (eqb (size t (offsets_of t s)) (element_count t s + 1))
    (eqb (connectivity_length t s) (element_count t s * nodes_per (element_type_of t s)))

-- 30: the first start offset is 0
unfoldable pub starts_at_zero : Tree → ℕ → Bool
starts_at_zero t s = eqb (start_offset t s 0) 0

-- 31: each is above its predecessor, as signed numbers of their own width
unfoldable pub rises : Tree → ℕ → ℕ → Bool
rises t s k = below (width t (offsets_of t s)) (start_offset t s k) (start_offset t s (suc k))

unfoldable pub all_rise : Tree → ℕ → Bool
all_rise t s = every_from (rises t s) (element_count t s) 0

-- 32: the last is the connectivity length
unfoldable pub ends_at_length : Tree → ℕ → Bool
ends_at_length t s = eqb (start_offset t s (element_count t s)) (connectivity_length t s)

-- 33: in a base with CellDimension 3 a face has at least 3 nodes and a cell at least 4 faces, repeats counted; 0 where nothing is asked
unfoldable pub least_size : Tree → ℕ → ℕ
least_size t s = cond (eqb (cell_dimension t (parent t (parent t s))) 3) (row (element_type_of t s) 0 (NGON has 3 ∷ NFACE has 4 ∷ [])) 0

unfoldable pub large_enough : Tree → ℕ → ℕ → Bool
large_enough t s k = leb (least_size t s) (element_size t s k)

unfoldable pub all_large_enough : Tree → ℕ → Bool
all_large_enough t s = every_from (large_enough t s) (element_count t s) 0

-- 38: in a MIXED section each element's own type fits
unfoldable pub all_types_fit : Tree → ℕ → Bool
all_types_fit t s = every_from (type_fits (layout_of t s)) (element_count t s) 0

-- entry k of a MIXED section is a type number where an element starts
unfoldable pub starts_at : Tree → ℕ → ℕ → ℕ → Bool
starts_at t s k j = eqb (element_start t s j) k

unfoldable pub is_type_number : Tree → ℕ → ℕ → Bool
is_type_number t s k = eqb (element_type_of t s) MIXED && some_from (starts_at t s k) (element_count t s) 0

-- 34: a node reference, which is every entry that is no type number, lies in 1 to VertexSize
unfoldable pub is_node : Tree → ℕ → ℕ → Bool
is_node t s k = is_type_number t s k || (leb 1 (reference t s k) && leb (reference t s k) (vertex_size t (parent t s) 0))

-- a section of the zone whose own data and range count: its node meets 24 and 25, its ElementRange conforms
unfoldable pub conforming_section : Tree → ℕ → ℕ → Bool
conforming_section t z s = section_of t z s && type_lawful t s && value_lawful t s && found t (range_of t s)

-- it brings element e to the zone; e is an element of the zone
unfoldable pub has_element : Tree → ℕ → ℕ → ℕ → Bool
has_element t z e s = conforming_section t z s && in_range t s e

unfoldable pub element_of : Tree → ℕ → ℕ → Bool
element_of t z e = some_from (has_element t z e) t.count 0

-- a face section of the zone: such a section of type 22
unfoldable pub face_section : Tree → ℕ → ℕ → Bool
face_section t z s = conforming_section t z s && eqb (element_type_of t s) NGON

-- it brings face f to the zone; f is a face of the zone
unfoldable pub has_face : Tree → ℕ → ℕ → ℕ → Bool
has_face t z f s = face_section t z s && in_range t s f

unfoldable pub face_of : Tree → ℕ → ℕ → Bool
face_of t z f = some_from (has_face t z f) t.count 0

-- the section that brings it: the first, and by rule 28 the only one
unfoldable pub section_with_face : Tree → ℕ → ℕ → ℕ
section_with_face t z f = seek_from (has_face t z f) t.count 0

-- a cell section of the zone: such a section of type 23; it brings cell c to the zone; c is a cell of the zone
unfoldable pub cell_section : Tree → ℕ → ℕ → Bool
cell_section t z s = conforming_section t z s && eqb (element_type_of t s) NFACE

unfoldable pub has_cell : Tree → ℕ → ℕ → ℕ → Bool
has_cell t z c s = cell_section t z s && in_range t s c

unfoldable pub cell_of : Tree → ℕ → ℕ → Bool
cell_of t z c = some_from (has_cell t z c) t.count 0

-- the element number that entry k of a type 23 section refers to; a negative reference means the same face seen from its other side
unfoldable pub face_number : Tree → ℕ → ℕ → ℕ
face_number t s k = magnitude (width t (connectivity_of t s)) (reference t s k)

-- 35: it is not zero; 36: it is an element of the zone; 37: it is a face of the zone
unfoldable pub not_zero : Tree → ℕ → ℕ → Bool
not_zero t s k = ltb 0 (face_number t s k)

unfoldable pub is_element : Tree → ℕ → ℕ → Bool
is_element t s k = element_of t (parent t s) (face_number t s k)

unfoldable pub is_face : Tree → ℕ → ℕ → Bool
is_face t s k = face_of t (parent t s) (face_number t s k)

-- the rules of a section, before its entries are looked at one by one
unfoldable pub element_rules : Tree → ℕ → List Rule
element_rules t s =
    27 unless taken (element_type_of t s)
    ∷ 28 unless not (overlaps t s)
    ∷ 29 unless lengths_fit t s
    ∷ 30 unless (has_offsets (element_type_of t s) ⊃ starts_at_zero t s)
    ∷ 31 unless (has_offsets (element_type_of t s) ⊃ all_rise t s)
    ∷ 32 unless (has_offsets (element_type_of t s) ⊃ ends_at_length t s)
    ∷ 33 unless all_large_enough t s
    ∷ 38 unless (eqb (element_type_of t s) MIXED ⊃ all_types_fit t s)
    ∷ []

-- the rules of entry k of its connectivity, counted from 0; of 35, 36 and 37 it breaks one at most
unfoldable pub reference_rules : Tree → ℕ → ℕ → List Rule
reference_rules t s k =
    34 unless (not (eqb (element_type_of t s) NFACE) ⊃ is_node t s k)
    ∷ 35 unless (eqb (element_type_of t s) NFACE ⊃ not_zero t s k)
    ∷ 36 unless (eqb (element_type_of t s) NFACE ⊃ not_zero t s k ⊃ is_element t s k)
    ∷ 37 unless (eqb (element_type_of t s) NFACE ⊃ is_element t s k ⊃ is_face t s k)
    ∷ []

-- a refusal tells the entry's place, counted from 1; the first entry that breaks a rule decides
unfoldable pub reference_check_at : Tree → ℕ → ℕ → Check
reference_check_at t s k = check s (reference_rules t s k) at_entry suc k

unfoldable pub reference_check : Tree → ℕ → Check
reference_check t s = check_from (reference_check_at t s) (connectivity_length t s) 0

-- the ParentElements of a section of type 22, conforming or not; the node count where it is absent
unfoldable pub parents_of : Tree → ℕ → ℕ
parents_of t s = or_missing t (eqb (element_type_of t s) NGON) (child t s DataArray (text "ParentElements"))

-- the parents of its k-th face, counted from 0: the first column has the first parents of all faces, the second column the second parents
unfoldable pub first_parent : Tree → ℕ → ℕ → ℕ
first_parent t s k = number t (parents_of t s) k

unfoldable pub second_parent : Tree → ℕ → ℕ → ℕ
second_parent t s k = number t (parents_of t s) (element_count t s + k)

-- the first is a cell of the zone; the second is one, or 0
unfoldable pub are_parents : Tree → ℕ → ℕ → Bool
are_parents t s k =
    cell_of t (parent t s) (first_parent t s k) && (eqb (second_parent t s k) 0 || cell_of t (parent t s) (second_parent t s k))

-- 39: I4 or I8, dimensions [n, 2], and each face has such parents
unfoldable pub parents_lawful : Tree → ℕ → Bool
parents_lawful t s =
    typed t (parents_of t s) (I4 ∷ I8 ∷ [])
    && shaped t (parents_of t s) (element_count t s ∷ 2 ∷ [])
    && every_from (are_parents t s) (element_count t s) 0

-- the rule of a section after those of its entries
unfoldable pub parent_rules : Tree → ℕ → List Rule
parent_rules t s = 39 unless (found t (parents_of t s) ⊃ parents_lawful t s) ∷ []
