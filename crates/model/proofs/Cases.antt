-- Document 01, "One tetrahedron, and near misses": cases (a) to (m), then those of document 02 by its sections, as one list with one claim, by computation.
use Prim.Native.Nat.{ℕ, ◌*◌, ◌-◌, ◌^◌}
use Prim.Native.String.{String}
use mathlib.Core.Path.{◌≡◌, refl}
use mathlib.Core.Bool.{Bool, true, false}
use mathlib.Core.List.{List, [], ◌∷◌, ◌++◌}
use lib.ListN.{length, replicate}
use lib.IntN.{ℤ, pos}
use Rattle.model.specs.declared.Section.{Section}
use Rattle.model.specs.declared.Rejection.{Rejection}
use Rattle.model.specs.Bytes.{all_bytes, text, numbers}
use Rattle.model.specs.Rules.{Answer, rejected, answer, rejection, rejection_at, repetition}
use Rattle.model.specs.Image.{tree_of}
use Rattle.model.specs.Validation.{Counts, validation}
use Rattle.model.specs.NameBytes.{name_bytes_answer}
use Rattle.model.specs.DataSize.{Sizes, data_size_answer}
use Rattle.model.specs.Sections.{entry, sections_answer}
use Rattle.model.specs.Corner.{corner_answer}
use Rattle.model.specs.ElementCorners.{element_corners_memory}
use Rattle.model.specs.OwnType.{own_type_answer}
use Rattle.model.specs.FaceUsage.{usage_answer, usage_memory}
use Rattle.model.specs.ParentElements.{FaceParents, parents_answer, agreement_answer, agreement_memory}
use Rattle.model.specs.Exports.{validation_words, usage_words, parent_words, agreement_words}
use Rattle.model.specs.Build.{minus, Plan, plan, image}
use Rattle.model.specs.Computed.{computed}
use Rattle.model.proofs.Rule22.{once_only, same_role, second}

infix 10 ◌refuses◌at◌ ◌refuses◌at◌place◌ ◌reports◌ ◌tells◌also-of-faces◌ ◌accepts◌ ◌starts◌ ◌sizes◌is◌ ◌uses◌leaving◌ ◌parents◌are◌ ◌agrees◌room◌leaving◌ ◌says◌also-of-agreement◌ ◌enters◌place◌width◌ ◌repeats◌ ◌compares◌ ◌reads◌from◌is◌ ◌types◌is◌ ◌hands◌is◌ ◌seconds◌is◌
-- the root that real files have
abbrev root_plan : Plan
root_plan = plan "HDF5 MotherNode" "Root Node of HDF5 File" "MT" [] 4294967295 []

abbrev integers : String → String → List ℕ → ℕ → Plan
integers name label xs up = plan name label "I4" (length xs ∷ []) up (all_bytes 4 xs)

-- an R8 array of four: no rule looks at a coordinate's values
abbrev axis : String → Plan
axis name = plan name "DataArray_t" "R8" (4 ∷ []) 5 (replicate 32 0)

-- the tetrahedron, over nodes from node 17 on, the base's CellDimension and PhysicalDimension, and range, start offsets and connectivity of its faces
-- and its cells
abbrev tetrahedron_with : List Plan → List ℕ → List ℕ → List ℕ → List ℕ → List ℕ → List ℕ → List ℕ → List ℕ
tetrahedron_with others base range offsets nodes cells starts faces =
    image
    (root_plan
    ∷ plan "CGNSLibraryVersion" "CGNSLibraryVersion_t" "R4" (1 ∷ []) 0 (102 ∷ 102 ∷ 134 ∷ 64 ∷ [])
    ∷ integers "Base" "CGNSBase_t" base 0
    ∷ plan "Zone1" "Zone_t" "I4" (1 ∷ 3 ∷ []) 2 (all_bytes 4 (4 ∷ 1 ∷ 0 ∷ []))
    ∷ plan "ZoneType" "ZoneType_t" "C1" (12 ∷ []) 3 (text "Unstructured")
    ∷ plan "GridCoordinates" "GridCoordinates_t" "MT" [] 3 []
    ∷ axis "CoordinateX"
    ∷ axis "CoordinateY"
    ∷ axis "CoordinateZ"
    ∷ integers "Faces" "Elements_t" (22 ∷ 0 ∷ []) 3
    ∷ integers "ElementRange" "IndexRange_t" range 9
    ∷ integers "ElementStartOffset" "DataArray_t" offsets 9
    ∷ integers "ElementConnectivity" "DataArray_t" nodes 9
    ∷ integers "Cells" "Elements_t" (23 ∷ 0 ∷ []) 3
    ∷ integers "ElementRange" "IndexRange_t" cells 13
    ∷ integers "ElementStartOffset" "DataArray_t" starts 13
    ∷ integers "ElementConnectivity" "DataArray_t" faces 13
    ∷ others)

abbrev tetrahedron_in : List ℕ → List ℕ → List ℕ → List ℕ → List ℕ → List ℕ → List ℕ → List ℕ
tetrahedron_in = tetrahedron_with []

-- of one cell, element 5
abbrev tetrahedron : List ℕ → List ℕ → List ℕ → List ℕ → List ℕ
tetrahedron range offsets nodes faces = tetrahedron_in (3 ∷ 3 ∷ []) range offsets nodes (5 ∷ 5 ∷ []) (0 ∷ length faces ∷ []) faces

-- 001's faces of a tetrahedron
abbrev four_faces : List ℕ
four_faces = 1 ∷ 3 ∷ 2 ∷ 1 ∷ 2 ∷ 4 ∷ 2 ∷ 3 ∷ 4 ∷ 3 ∷ 1 ∷ 4 ∷ []

abbrev with_offsets : List ℕ → List ℕ
with_offsets o = tetrahedron (1 ∷ 4 ∷ []) o four_faces (1 ∷ 2 ∷ 3 ∷ 4 ∷ [])

abbrev with_faces : List ℕ → List ℕ
with_faces f = tetrahedron (1 ∷ 4 ∷ []) (0 ∷ 3 ∷ 6 ∷ 9 ∷ 12 ∷ []) four_faces f

abbrev tetra : List ℕ
tetra = with_faces (1 ∷ 2 ∷ 3 ∷ 4 ∷ [])

abbrev with_cells : List ℕ → List ℕ → List ℕ → List ℕ
with_cells cells starts faces = tetrahedron_in (3 ∷ 3 ∷ []) (1 ∷ 4 ∷ []) (0 ∷ 3 ∷ 6 ∷ 9 ∷ 12 ∷ []) four_faces cells starts faces

-- 17 × 33 × 9 with rind 0 0 0 0 1 1
abbrev layered : List ℕ
layered =
    image
    (root_plan
    ∷ integers "Base" "CGNSBase_t" (3 ∷ 3 ∷ []) 0
    ∷ plan "Zone" "Zone_t" "I4" (3 ∷ 3 ∷ []) 1 (all_bytes 4 (17 ∷ 33 ∷ 9 ∷ 16 ∷ 32 ∷ 8 ∷ 0 ∷ 0 ∷ 0 ∷ []))
    ∷ plan "ZoneType" "ZoneType_t" "C1" (10 ∷ []) 2 (text "Structured")
    ∷ plan "GridCoordinates" "GridCoordinates_t" "MT" [] 2 []
    ∷ integers "Rind" "Rind_t" (0 ∷ 0 ∷ 0 ∷ 0 ∷ 1 ∷ 1 ∷ []) 4
    ∷ plan "CoordinateX" "DataArray_t" "R4" (17 ∷ 33 ∷ 11 ∷ []) 4 (replicate 24684 0)
    ∷ [])

-- §1: a flow solution, node 4, with these children, in a zone of 5 × 4 × 3 vertices or of 9 vertices and 4 cells
abbrev flow : Plan → Plan → List Plan → List ℕ
flow zone type children =
    image
    (root_plan
    ∷ integers "Base" "CGNSBase_t" (3 ∷ 3 ∷ []) 0
    ∷ zone
    ∷ type
    ∷ plan "Wall" "FlowSolution_t" "MT" [] 2 []
    ∷ children)

abbrev block : Plan
block = plan "Zone" "Zone_t" "I4" (3 ∷ 3 ∷ []) 1 (all_bytes 4 (5 ∷ 4 ∷ 3 ∷ 4 ∷ 3 ∷ 2 ∷ 0 ∷ 0 ∷ 0 ∷ []))

abbrev zone_type : String → Plan
zone_type name = plan name "ZoneType_t" "C1" (10 ∷ []) 2 (text "Structured")

abbrev in_block : List Plan → List ℕ
in_block = flow block (zone_type "ZoneType")

abbrev in_mesh : List Plan → List ℕ
in_mesh =
    flow (plan "Zone" "Zone_t" "I8" (1 ∷ 3 ∷ []) 1 (all_bytes 8 (9 ∷ 4 ∷ 0 ∷ [])))
    (plan "ZoneType" "ZoneType_t" "C1" (12 ∷ []) 2 (text "Unstructured"))

-- over all begins, then all ends
abbrev point_range : List ℕ → Plan
point_range bounds = plan "PointRange" "IndexRange_t" "I4" (3 ∷ 2 ∷ []) 4 (all_bytes 4 bounds)

-- no rule looks at its values
abbrev point_list : ℕ → ℕ → ℕ → Plan
point_list n count up = plan "PointList" "IndexArray_t" "I8" (n ∷ count ∷ []) up (replicate (8 * (n * count)) 255)

abbrev pressure : List ℕ → ℕ → Plan
pressure sizes n = plan "Pressure" "DataArray_t" "R4" sizes 4 (replicate (4 * n) 0)

-- §2: a section, node 5, of one element with two nodes, in its own base beside another
abbrev of_two_nodes : ℕ → List ℕ → List ℕ → List ℕ
of_two_nodes type other own =
    image
    (root_plan
    ∷ integers "Other" "CGNSBase_t" other 0
    ∷ integers "Base" "CGNSBase_t" own 0
    ∷ plan "Zone" "Zone_t" "I8" (1 ∷ 3 ∷ []) 2 (all_bytes 8 (2 ∷ 1 ∷ 0 ∷ []))
    ∷ plan "ZoneType" "ZoneType_t" "C1" (12 ∷ []) 3 (text "Unstructured")
    ∷ integers "Section" "Elements_t" (type ∷ 0 ∷ []) 3
    ∷ integers "ElementRange" "IndexRange_t" (1 ∷ 1 ∷ []) 5
    ∷ plan "ElementStartOffset" "DataArray_t" "I8" (2 ∷ []) 5 (all_bytes 8 (0 ∷ 2 ∷ []))
    ∷ integers "ElementConnectivity" "DataArray_t" (1 ∷ 2 ∷ []) 5
    ∷ [])

-- §3: a root and nodes of these names and parents, their label unknown
abbrev named : List (String × ℕ) → List ℕ
named names = image (root_plan ∷ plans names)
  where
    plans : List (String × ℕ) → List Plan
    plans [] = []
    plans ((name, up) ∷ rest) = plan name "Any" "MT" [] up [] ∷ plans rest

-- §4: a section, node 4, in a zone of ten vertices, over its type, its range, its start offsets and its connectivity
abbrev in_zone_lem : ℕ → Plan → Plan → Plan → List ℕ
in_zone_lem type range offsets entries =
    image
    (root_plan
    ∷ integers "Base" "CGNSBase_t" (3 ∷ 3 ∷ []) 0
    ∷ plan "Zone" "Zone_t" "I4" (1 ∷ 3 ∷ []) 1 (all_bytes 4 (10 ∷ 2 ∷ 0 ∷ []))
    ∷ plan "ZoneType" "ZoneType_t" "C1" (12 ∷ []) 2 (text "Unstructured")
    ∷ integers "Layers" "Elements_t" (type ∷ 0 ∷ []) 2
    ∷ range
    ∷ offsets
    ∷ entries
    ∷ [])

-- of elements 1 and 2; MIXED
abbrev two_of : ℕ → List ℕ → List ℕ → List ℕ
two_of type offsets entries =
    in_zone_lem type (integers "ElementRange" "IndexRange_t" (1 ∷ 2 ∷ []) 4) (integers "ElementStartOffset" "DataArray_t" offsets 4)
    (integers "ElementConnectivity" "DataArray_t" entries 4)

abbrev two_elements : List ℕ → List ℕ → List ℕ
two_elements = two_of 20

-- a hexahedron and a prism on its top, over their types and the prism's last node
abbrev hexahedron : ℕ → List ℕ → List ℕ
hexahedron type rest = type ∷ 1 ∷ 2 ∷ 3 ∷ 4 ∷ 5 ∷ 6 ∷ 7 ∷ 8 ∷ rest

abbrev with_types : ℕ → ℕ → ℕ → List ℕ
with_types first second node = two_elements (0 ∷ 9 ∷ 16 ∷ []) (hexahedron first (second ∷ 5 ∷ 6 ∷ 9 ∷ 8 ∷ 7 ∷ node ∷ []))

-- one tetrahedron, element 1, in 8 bytes, over its type
abbrev wide_type : ℕ → List ℕ
wide_type type =
    in_zone_lem 20 (integers "ElementRange" "IndexRange_t" (1 ∷ 1 ∷ []) 4) (plan "ElementStartOffset" "DataArray_t" "I8" (2 ∷ []) 4 (all_bytes 8 (0 ∷ 5 ∷ [])))
    (plan "ElementConnectivity" "DataArray_t" "I8" (5 ∷ []) 4 (all_bytes 8 (type ∷ 1 ∷ 2 ∷ 3 ∷ 5 ∷ [])))

-- §5: nodes of labels allowed once, over name and parent
abbrev version : String → ℕ → Plan
version name up = plan name "CGNSLibraryVersion_t" "R4" (1 ∷ []) up (replicate 4 0)

abbrev rind : String → ℕ → Plan
rind name up = integers name "Rind_t" (replicate 6 0) up

abbrev location : String → ℕ → Plan
location name up = plan name "GridLocation_t" "C1" (6 ∷ []) up (text "Vertex")

-- §6: cells, node 4, of one cell, element 5, with these references, before their faces 1 to 4, node 8, and before these nodes, from node 12 on
abbrev cell_first : Plan → List Plan → List ℕ
cell_first references others =
    image
    (root_plan
    ∷ integers "Base" "CGNSBase_t" (3 ∷ 3 ∷ []) 0
    ∷ plan "Zone" "Zone_t" "I4" (1 ∷ 3 ∷ []) 1 (all_bytes 4 (4 ∷ 1 ∷ 0 ∷ []))
    ∷ plan "ZoneType" "ZoneType_t" "C1" (12 ∷ []) 2 (text "Unstructured")
    ∷ integers "Cells" "Elements_t" (23 ∷ 0 ∷ []) 2
    ∷ integers "ElementRange" "IndexRange_t" (5 ∷ 5 ∷ []) 4
    ∷ integers "ElementStartOffset" "DataArray_t" (0 ∷ 4 ∷ []) 4
    ∷ references
    ∷ integers "Faces" "Elements_t" (22 ∷ 0 ∷ []) 2
    ∷ integers "ElementRange" "IndexRange_t" (1 ∷ 4 ∷ []) 8
    ∷ integers "ElementStartOffset" "DataArray_t" (0 ∷ 3 ∷ 6 ∷ 9 ∷ 12 ∷ []) 8
    ∷ integers "ElementConnectivity" "DataArray_t" four_faces 8
    ∷ others)

-- references in 4 bytes; faces 1 to 3 and another one in 8 bytes
abbrev refer : List ℕ → Plan
refer faces = integers "ElementConnectivity" "DataArray_t" faces 4

abbrev wide_face : ℕ → List ℕ
wide_face face = cell_first (plan "ElementConnectivity" "DataArray_t" "I8" (4 ∷ []) 4 (all_bytes 8 (1 ∷ 2 ∷ 3 ∷ face ∷ []))) []

-- another section, node `at` below zone `up`, over its data, its range and its references
abbrev another : ℕ → ℕ → List ℕ → List ℕ → List ℕ → List Plan
another at up own range references =
    integers "Other" "Elements_t" own up
    ∷ integers "ElementRange" "IndexRange_t" range at
    ∷ integers "ElementStartOffset" "DataArray_t" (0 ∷ length references ∷ []) at
    ∷ integers "ElementConnectivity" "DataArray_t" references at
    ∷ []

-- the cell refers to faces 1 to 3 and to element 6, which that section has
abbrev to_other : List ℕ → List ℕ → List ℕ → List ℕ
to_other own range references = cell_first (refer (1 ∷ 2 ∷ 3 ∷ 6 ∷ [])) (another 12 2 own range references)

-- §7: the tetrahedron with this node 17, and these faces of its cell
abbrev with_array : Plan → List ℕ → List ℕ
with_array array faces =
    tetrahedron_with (array ∷ []) (3 ∷ 3 ∷ []) (1 ∷ 4 ∷ []) (0 ∷ 3 ∷ 6 ∷ 9 ∷ 12 ∷ []) four_faces (5 ∷ 5 ∷ []) (0 ∷ length faces ∷ []) faces

-- the parents of its four faces, first all first ones, then all second ones
abbrev parent_array : String → List ℕ → List ℕ → Plan
parent_array label dimensions numbers = plan "ParentElements" label "I4" dimensions 9 (all_bytes 4 numbers)

abbrev four_pairs : List ℕ → Plan
four_pairs numbers = parent_array "DataArray_t" (4 ∷ 2 ∷ []) numbers

abbrev with_parents : List ℕ → List ℕ
with_parents numbers = with_array (four_pairs numbers) (1 ∷ 2 ∷ 3 ∷ 4 ∷ [])

-- cell 5 alone beside all faces
abbrev alone : List ℕ
alone = 5 ∷ 5 ∷ 5 ∷ 5 ∷ 0 ∷ 0 ∷ 0 ∷ 0 ∷ []

-- cells 5 and 6 beside all faces
abbrev with_two_cells : List ℕ → List ℕ
with_two_cells numbers =
    tetrahedron_with (four_pairs numbers ∷ []) (3 ∷ 3 ∷ []) (1 ∷ 4 ∷ []) (0 ∷ 3 ∷ 6 ∷ 9 ∷ 12 ∷ []) four_faces (5 ∷ 6 ∷ []) (0 ∷ 4 ∷ 8 ∷ [])
    (1 ∷ 2 ∷ 3 ∷ 4 ∷ minus 1 ∷ minus 2 ∷ minus 3 ∷ minus 4 ∷ [])

-- cell 5 beside faces 1 to 3 and face 6, which is in a section of its own, node 17, with its parents, node 21, in 8 bytes
abbrev with_two_sections : List ℕ
with_two_sections =
    tetrahedron_with (another 17 3 (22 ∷ 0 ∷ []) (6 ∷ 6 ∷ []) (1 ∷ 2 ∷ 3 ∷ []) ++ plan "ParentElements" "DataArray_t" "I8" (1 ∷ 2 ∷ []) 17 (all_bytes 8 (5 ∷ 0 ∷ [])) ∷ [])
    (3 ∷ 3 ∷ []) (1 ∷ 4 ∷ []) (0 ∷ 3 ∷ 6 ∷ 9 ∷ 12 ∷ []) four_faces (5 ∷ 5 ∷ []) (0 ∷ 4 ∷ []) (1 ∷ 2 ∷ 3 ∷ 6 ∷ [])

-- another array of that name
abbrev other : String → String → ℕ → Plan
other label type up = plan "ParentElements" label type [] up []

-- what a case says of an image
pub data Case : Type 0 where
  -- the header's words
  ◌starts◌ : List ℕ → List ℕ → Case
  -- nodes validated, nodes skipped, zones, sections
  ◌accepts◌ : List ℕ → Counts → Case
  -- a rule and a node
  ◌refuses◌at◌ : List ℕ → ℕ → ℕ → Case
  -- a rule, a node and the place of an entry of its connectivity
  ◌refuses◌at◌place◌ : List ℕ → ℕ → ℕ → ℕ → Case
  -- calls that give validation's refusal, entry and all: sections, face usage, sizes
  ◌reports◌ : List ℕ → Rejection → Case
  -- the words of the exports of validation and of the face usage of zone 3
  ◌tells◌also-of-faces◌ : List ℕ → List ℕ → List ℕ → Case
  -- the face usage of zone 3, in a buffer of six bytes
  ◌uses◌leaving◌ : List ℕ → ℕ → List ℕ → Case
  -- the parents of a face of zone 3
  ◌parents◌are◌ : List ℕ → ℕ → Answer FaceParents → Case
  -- whether the parents of zone 3 agree with its cells, in a buffer of so many bytes
  ◌agrees◌room◌leaving◌ : List ℕ → Answer Bool → ℕ → List ℕ → Case
  -- the words of both exports, of face 4 and in a buffer of six bytes
  ◌says◌also-of-agreement◌ : List ℕ → List ℕ → List ℕ → Case
  -- place and width of the parents in the entry of a section
  ◌enters◌place◌width◌ : List ℕ → ℕ → ℕ → ℕ → Case
  -- the section and the element of 45, the buffer's first four bytes then 0
  ◌repeats◌ : List ℕ → Answer ℕ → Case
  -- the DataSize of a node
  ◌sizes◌is◌ : List ℕ → ℕ → Sizes → Case
  -- the name bytes compared
  ◌compares◌ : List ℕ → Answer ℕ → Case
  -- by the entry of section 4: an element's corner (an element and a corner), its own type, all its corners in a buffer of eight numbers
  ◌reads◌from◌is◌ : List ℕ → ℕ → ℕ → Answer ℤ → Case
  ◌types◌is◌ : List ℕ → ℕ → Answer ℕ → Case
  ◌hands◌is◌ : List ℕ → ℕ → List ℤ → Case
  -- whether a node is a second child of a label allowed once
  ◌seconds◌is◌ : List ℕ → ℕ → Bool → Case

abbrev lent : List ℕ
lent = replicate 6 9

abbrev layers : List ℕ → Section
layers b = entry (tree_of b) 4

abbrev pub Holds : Case → Type 0
Holds (b starts ws) = numbers 4 8 b ≡ ws
Holds (b accepts c) = validation b ≡ answer c
Holds (b refuses r at n) = validation b ≡ rejected (rejection r n)
Holds (b refuses r at n place k) = validation b ≡ rejected (rejection_at r n k)
Holds (b reports r) = (sections_answer b 3 9 ≡ rejected r) × (usage_answer b 3 6 ≡ rejected r) × (data_size_answer b 6 ≡ rejected r)
Holds (b tells ws also-of-faces vs) = (validation_words (validation b) ≡ ws) × (usage_words (usage_answer b 3 6) ≡ vs)
Holds (b uses f leaving bytes) = (usage_answer b 3 6 ≡ answer f) × (usage_memory b 3 lent ≡ bytes)
Holds (b parents f are a) = parents_answer b 3 f ≡ a
Holds (b agrees a room n leaving bytes) = (agreement_answer b 3 n ≡ a) × (agreement_memory b 3 (replicate n 9) ≡ bytes)
Holds (b says ws also-of-agreement vs) = (parent_words (parents_answer b 3 4) ≡ ws) × (agreement_words (agreement_answer b 3 6) ≡ vs)
Holds (b enters s place p width w) = ((entry (tree_of b) s).parents_at ≡ p) × ((entry (tree_of b) s).parents_width ≡ w)
Holds (b repeats a) = (usage_answer b 3 6 ≡ a) × (usage_memory b 3 lent ≡ (0 ∷ 0 ∷ 0 ∷ 0 ∷ 9 ∷ 9 ∷ []))
Holds (b sizes i is s) = data_size_answer b i ≡ answer s
Holds (b compares a) = name_bytes_answer b ≡ a
Holds (b reads e from c is a) = corner_answer b (layers b) e c ≡ a
Holds (b types e is a) = own_type_answer b (layers b) e ≡ a
Holds (b hands e is ns) = element_corners_memory b (layers b) e (replicate 8 (pos 99)) ≡ ns
Holds (b seconds i is a) = second (tree_of b) i ≡ a

abbrev pub Right : List Case → Type 0
Right [] = Unit {0}
Right (c ∷ cs) = Holds c × Right cs

abbrev tetra_counts : Counts
tetra_counts = record { validated = 17; skipped = 0; zones = 1; sections = 2 }

-- document 01's, and those of §1 to §6
abbrev earlier : List Case
earlier =
    -- (a) the tetrahedron
    (tetra starts (1 ∷ 1844 ∷ 17 ∷ 32 ∷ 1460 ∷ 16 ∷ 1588 ∷ 256 ∷ []))
    ∷ (tetra accepts tetra_counts)
    -- (b) 31 bytes
    ∷ (replicate 31 0 refuses 1 at 0)
    -- (c) a header alone
    ∷ (all_bytes 4 (1 ∷ 32 ∷ 0 ∷ 32 ∷ 32 ∷ 0 ∷ 32 ∷ 0 ∷ []) refuses 4 at 0)
    -- (d) a lawful MT root alone
    ∷ (image (root_plan ∷ []) refuses 23 at 0)
    -- (e), (f), (g) start offsets
    ∷ (with_offsets (1 ∷ 3 ∷ 6 ∷ 9 ∷ 12 ∷ []) refuses 30 at 9)
    ∷ (with_offsets (0 ∷ 3 ∷ 6 ∷ 6 ∷ 12 ∷ []) refuses 31 at 9)
    ∷ (with_offsets (0 ∷ 3 ∷ 6 ∷ 9 ∷ 11 ∷ []) refuses 32 at 9)
    -- (h) faces range 1..5
    ∷ (tetrahedron (1 ∷ 5 ∷ []) (0 ∷ 3 ∷ 6 ∷ 9 ∷ 12 ∷ []) four_faces (1 ∷ 2 ∷ 3 ∷ 4 ∷ []) refuses 29 at 9)
    -- (i) node 5
    ∷ (tetrahedron (1 ∷ 4 ∷ []) (0 ∷ 3 ∷ 6 ∷ 9 ∷ 12 ∷ []) (1 ∷ 3 ∷ 2 ∷ 1 ∷ 2 ∷ 4 ∷ 2 ∷ 3 ∷ 4 ∷ 3 ∷ 1 ∷ 5 ∷ []) (1 ∷ 2 ∷ 3 ∷ 4 ∷ []) refuses 34 at 9 place 12)
    -- (j) face 0, 5 or −2147483648, as §6 has them
    ∷ (with_faces (1 ∷ 2 ∷ 3 ∷ 0 ∷ []) refuses 35 at 13 place 4)
    ∷ (with_faces (1 ∷ 2 ∷ 3 ∷ 5 ∷ []) refuses 37 at 13 place 4)
    ∷ (with_faces (1 ∷ 2 ∷ 3 ∷ minus 2147483648 ∷ []) refuses 36 at 13 place 4)
    -- (k) faces 1 2 3 −3
    ∷ (with_faces (1 ∷ 2 ∷ 3 ∷ minus 3 ∷ []) accepts tetra_counts)
    ∷ (with_faces (1 ∷ 2 ∷ 3 ∷ minus 3 ∷ []) uses 4 leaving (1 ∷ 1 ∷ 3 ∷ 0 ∷ 9 ∷ 9 ∷ []))
    -- (l) faces 1 2 3 3
    ∷ (with_faces (1 ∷ 2 ∷ 3 ∷ 3 ∷ []) accepts tetra_counts)
    ∷ (with_faces (1 ∷ 2 ∷ 3 ∷ 3 ∷ []) repeats rejected (repetition 13 5))
    -- (m) 17 × 33 × 9 with a rind
    ∷ (layered accepts record { validated = 7; skipped = 0; zones = 1; sections = 0 })
    ∷ (layered sizes 6 is record { directions = 3; i = 17; j = 33; k = 11 })
    -- §1 a wall of 4 × 3 points by a range
    ∷ (in_block (point_range (1 ∷ 1 ∷ 1 ∷ 4 ∷ 3 ∷ 1 ∷ []) ∷ pressure (12 ∷ []) 12 ∷ []) accepts record { validated = 7; skipped = 0; zones = 1; sections = 0 })
    ∷ (in_block (point_range (1 ∷ 1 ∷ 1 ∷ 4 ∷ 3 ∷ 1 ∷ []) ∷ pressure (12 ∷ []) 12 ∷ []) sizes 6 is record { directions = 1; i = 12; j = 0; k = 0 })
    -- points −1..0 × 1..4 × 3..3; rind and location are not consulted
    ∷ (in_block
    (integers "Rind" "Rind_t" (1 ∷ 1 ∷ 1 ∷ 1 ∷ 1 ∷ 1 ∷ []) 4
    ∷ plan "GridLocation" "GridLocation_t" "C1" (10 ∷ []) 4 (text "CellCenter")
    ∷ pressure (8 ∷ []) 8
    ∷ point_range (minus 1 ∷ 1 ∷ 3 ∷ 0 ∷ 4 ∷ 3 ∷ [])
    ∷ [])
    sizes 7 is record { directions = 1; i = 8; j = 0; k = 0 })
    -- a begin above its end: 25 at the range, and its arrays have the zone's sizes
    ∷ (in_block (pressure (5 ∷ 4 ∷ 3 ∷ []) 60 ∷ point_range (4 ∷ 1 ∷ 1 ∷ 1 ∷ 3 ∷ 1 ∷ []) ∷ []) refuses 25 at 6)
    ∷ (in_block (pressure (12 ∷ []) 12 ∷ point_range (4 ∷ 1 ∷ 1 ∷ 1 ∷ 3 ∷ 1 ∷ []) ∷ []) refuses 26 at 5)
    -- −2147483648; 2^32 + 1 to 2^32 + 3 in 8 bytes
    ∷ (in_block (point_range (minus 2147483648 ∷ 1 ∷ 1 ∷ 1 ∷ 1 ∷ 1 ∷ []) ∷ []) refuses 25 at 5)
    ∷ (in_mesh (plan "PointRange" "IndexRange_t" "I8" (1 ∷ 2 ∷ []) 4 (all_bytes 8 (4294967297 ∷ 4294967299 ∷ [])) ∷ []) refuses 25 at 5)
    -- both; both, and neither conforms
    ∷ (in_block (point_range (1 ∷ 1 ∷ 1 ∷ 1 ∷ 1 ∷ 1 ∷ []) ∷ point_list 3 1 4 ∷ []) refuses 25 at 4)
    ∷ (in_mesh (point_range (1 ∷ 1 ∷ 1 ∷ 1 ∷ 1 ∷ 1 ∷ []) ∷ point_list 3 1 4 ∷ []) refuses 25 at 4)
    -- a list of 5 points, in a mesh and in a block
    ∷ (in_mesh (point_list 1 5 4 ∷ pressure (5 ∷ []) 5 ∷ []) accepts record { validated = 7; skipped = 0; zones = 1; sections = 0 })
    ∷ (in_mesh (point_list 1 5 4 ∷ pressure (5 ∷ []) 5 ∷ []) sizes 6 is record { directions = 1; i = 5; j = 0; k = 0 })
    ∷ (in_block (point_list 3 5 4 ∷ pressure (5 ∷ []) 5 ∷ []) sizes 6 is record { directions = 1; i = 5; j = 0; k = 0 })
    -- a list under a zone, under coordinates after an array of its size, under a UserDefinedData_t; a Descriptor_t under a range; the names crossed
    ∷ (in_mesh (point_list 1 5 2 ∷ []) refuses 20 at 5)
    ∷ (in_mesh
    (plan "Grid" "GridCoordinates_t" "MT" [] 2 []
    ∷ plan "CoordinateX" "DataArray_t" "R4" (5 ∷ []) 5 (replicate 20 0)
    ∷ point_list 1 5 5
    ∷ [])
    refuses 26 at 6)
    ∷ (in_mesh (plan "Own" "UserDefinedData_t" "MT" [] 4 [] ∷ point_list 1 5 5 ∷ [])
    accepts record { validated = 6; skipped = 1; zones = 1; sections = 0 })
    ∷ (in_block (point_range (1 ∷ 1 ∷ 1 ∷ 1 ∷ 1 ∷ 1 ∷ []) ∷ plan "Note" "Descriptor_t" "C1" (1 ∷ []) 5 (65 ∷ []) ∷ []) refuses 20 at 6)
    ∷ (in_mesh (plan "PointList" "IndexRange_t" "I4" (1 ∷ 2 ∷ []) 4 (all_bytes 4 (1 ∷ 1 ∷ [])) ∷ []) refuses 21 at 5)
    -- 769546 × 494770 × 48448661 = 2^64 + 4 points: an array of 4; no array
    ∷ (in_block (point_range (1 ∷ 1 ∷ 1 ∷ 769546 ∷ 494770 ∷ 48448661 ∷ []) ∷ pressure (4 ∷ []) 4 ∷ []) refuses 26 at 6)
    ∷ (in_block (point_range (1 ∷ 1 ∷ 1 ∷ 769546 ∷ 494770 ∷ 48448661 ∷ []) ∷ []) accepts record { validated = 6; skipped = 0; zones = 1; sections = 0 })
    -- §2 a face of two nodes: the third; the last; the last, with a node 5 in the first
    ∷ (with_offsets (0 ∷ 3 ∷ 6 ∷ 8 ∷ 12 ∷ []) refuses 33 at 9)
    ∷ (with_offsets (0 ∷ 3 ∷ 6 ∷ 10 ∷ 12 ∷ []) refuses 33 at 9)
    ∷ (tetrahedron (1 ∷ 4 ∷ []) (0 ∷ 3 ∷ 6 ∷ 10 ∷ 12 ∷ []) (5 ∷ 3 ∷ 2 ∷ 1 ∷ 2 ∷ 4 ∷ 2 ∷ 3 ∷ 4 ∷ 3 ∷ 1 ∷ 4 ∷ []) (1 ∷ 2 ∷ 3 ∷ 4 ∷ []) refuses 33 at 9)
    -- 28 to 32 come before it, as in (e) and (g)
    ∷ (with_cells (4 ∷ 4 ∷ []) (0 ∷ 3 ∷ []) (1 ∷ 2 ∷ 3 ∷ []) refuses 28 at 13)
    ∷ (with_offsets (0 ∷ 2 ∷ 6 ∷ 6 ∷ 12 ∷ []) refuses 31 at 9)
    ∷ (with_offsets (0 ∷ 2 ∷ 6 ∷ 9 ∷ 11 ∷ []) refuses 32 at 9)
    -- a cell of three faces; the second of two, with a face 0 in the first; one after a face with a node 5
    ∷ (with_faces (1 ∷ 2 ∷ 3 ∷ []) refuses 33 at 13)
    ∷ (with_cells (5 ∷ 6 ∷ []) (0 ∷ 4 ∷ 7 ∷ []) (0 ∷ 2 ∷ 3 ∷ 4 ∷ 1 ∷ 2 ∷ 3 ∷ []) refuses 33 at 13)
    ∷ (tetrahedron (1 ∷ 4 ∷ []) (0 ∷ 3 ∷ 6 ∷ 9 ∷ 12 ∷ []) (5 ∷ 3 ∷ 2 ∷ 1 ∷ 2 ∷ 4 ∷ 2 ∷ 3 ∷ 4 ∷ 3 ∷ 1 ∷ 4 ∷ []) (1 ∷ 2 ∷ 3 ∷ []) refuses 34 at 9 place 1)
    -- repeats count, as in (k) and (l): three nodes that are one; more are lawful: a face of four nodes, a cell of five faces
    ∷ (tetrahedron (1 ∷ 4 ∷ []) (0 ∷ 3 ∷ 6 ∷ 9 ∷ 12 ∷ []) (1 ∷ 1 ∷ 1 ∷ 1 ∷ 2 ∷ 4 ∷ 2 ∷ 3 ∷ 4 ∷ 3 ∷ 1 ∷ 4 ∷ []) (1 ∷ 2 ∷ 3 ∷ 4 ∷ []) accepts tetra_counts)
    ∷ (tetrahedron (1 ∷ 4 ∷ []) (0 ∷ 4 ∷ 7 ∷ 10 ∷ 13 ∷ []) (1 ∷ 3 ∷ 2 ∷ 1 ∷ 1 ∷ 2 ∷ 4 ∷ 2 ∷ 3 ∷ 4 ∷ 3 ∷ 1 ∷ 4 ∷ []) (1 ∷ 2 ∷ 3 ∷ 4 ∷ minus 4 ∷ [])
    accepts tetra_counts)
    -- CellDimension 2: a face of two nodes; one of one node and a cell of three faces
    ∷ (tetrahedron_in (2 ∷ 3 ∷ []) (1 ∷ 4 ∷ []) (0 ∷ 3 ∷ 6 ∷ 10 ∷ 12 ∷ []) four_faces (5 ∷ 5 ∷ []) (0 ∷ 4 ∷ []) (1 ∷ 2 ∷ 3 ∷ 4 ∷ []) accepts tetra_counts)
    ∷ (tetrahedron_in (2 ∷ 3 ∷ []) (1 ∷ 4 ∷ []) (0 ∷ 1 ∷ 6 ∷ 10 ∷ 12 ∷ []) four_faces (5 ∷ 5 ∷ []) (0 ∷ 3 ∷ []) (1 ∷ 2 ∷ 3 ∷ []) accepts tetra_counts)
    -- the zone's own base counts, of CellDimension 1 and 2 too; a BAR_2 has two nodes in any base
    ∷ (of_two_nodes 22 (3 ∷ 3 ∷ []) (1 ∷ 3 ∷ []) accepts record { validated = 9; skipped = 0; zones = 1; sections = 1 })
    ∷ (of_two_nodes 22 (3 ∷ 3 ∷ []) (2 ∷ 3 ∷ []) accepts record { validated = 9; skipped = 0; zones = 1; sections = 1 })
    ∷ (of_two_nodes 22 (2 ∷ 3 ∷ []) (3 ∷ 3 ∷ []) refuses 33 at 5)
    ∷ (of_two_nodes 3 (3 ∷ 3 ∷ []) (3 ∷ 3 ∷ []) accepts record { validated = 9; skipped = 0; zones = 1; sections = 1 })
    -- §3 a root alone; the tetrahedron: 1 below the root, 6 in the zone, 33 in the coordinates, 24 in each section
    ∷ (image (root_plan ∷ []) compares answer 0)
    ∷ (tetra compares answer 88)
    -- names that differ in the first byte; in the second, where the padding begins; in the last one
    ∷ (named (("A", 0) ∷ ("B", 0) ∷ []) compares answer 1)
    ∷ (named (("A", 0) ∷ ("AB", 0) ∷ []) compares answer 2)
    ∷ (named (("AbcdefghijklmnopqrstuvwxyzabcdeX", 0) ∷ ("Abcdefghijklmnopqrstuvwxyzabcdef", 0) ∷ []) compares answer 32)
    -- each pair once: 2, 3 and 2 bytes
    ∷ (named (("Ab", 0) ∷ ("Ac", 0) ∷ ("Abd", 0) ∷ []) compares answer 7)
    -- one name under two parents: no siblings
    ∷ (named (("A", 0) ∷ ("B", 0) ∷ ("X", 1) ∷ ("X", 2) ∷ []) compares answer 1)
    -- the name of an earlier sibling; an image that breaks rule 20 alone
    ∷ (named (("Ab", 0) ∷ ("Ac", 0) ∷ ("Ab", 0) ∷ []) compares rejected (rejection 11 3))
    ∷ (in_mesh (point_list 1 5 2 ∷ []) compares answer 3)
    -- §4 a hexahedron and a prism: corner 1 is the first node, the type is no corner; the prism's third corner, its last, one more
    ∷ (with_types 17 14 10 accepts record { validated = 8; skipped = 0; zones = 1; sections = 1 })
    ∷ (with_types 17 14 10 reads 1 from 1 is answer (pos 1))
    ∷ (with_types 17 14 10 reads 2 from 1 is answer (pos 5))
    ∷ (with_types 17 14 10 reads 2 from 3 is answer (pos 9))
    ∷ (with_types 17 14 10 reads 2 from 6 is answer (pos 10))
    ∷ (with_types 17 14 10 reads 2 from 7 is rejected (rejection 42 0))
    ∷ (with_types 17 14 10 hands 2 is (pos 5 ∷ pos 6 ∷ pos 9 ∷ pos 8 ∷ pos 7 ∷ pos 10 ∷ pos 99 ∷ pos 99 ∷ []))
    ∷ (with_types 17 14 10 types 1 is answer 17)
    ∷ (with_types 17 14 10 types 2 is answer 14)
    ∷ (with_types 17 14 10 types 3 is rejected (rejection 41 0))
    -- in other sections the section's
    ∷ (two_of 22 (0 ∷ 3 ∷ 6 ∷ []) (1 ∷ 2 ∷ 3 ∷ 4 ∷ 5 ∷ 6 ∷ []) types 2 is answer 22)
    ∷ (two_of 5 (0 ∷ 3 ∷ 6 ∷ []) (1 ∷ 2 ∷ 3 ∷ 4 ∷ 5 ∷ 6 ∷ []) types 2 is answer 5)
    -- another type with as many nodes
    ∷ (with_types 8 6 10 accepts record { validated = 8; skipped = 0; zones = 1; sections = 1 })
    ∷ (with_types 8 6 10 types 2 is answer 6)
    -- stored types that are not in the list, 22, 20 and −14; the readers: 43
    ∷ (with_types 17 22 10 refuses 38 at 4)
    ∷ (with_types 20 14 10 refuses 38 at 4)
    ∷ (with_types 17 (minus 14) 10 refuses 38 at 4)
    ∷ (with_types 17 (minus 14) 10 reads 2 from 1 is rejected (rejection 43 0))
    ∷ (with_types 17 (minus 14) 10 reads 1 from 8 is answer (pos 8))
    ∷ (with_types 17 22 10 types 2 is rejected (rejection 43 0))
    -- not in the list, and nothing behind it: 1 + 0 is end − start
    ∷ (two_elements (0 ∷ 1 ∷ 3 ∷ []) (22 ∷ 2 ∷ 1 ∷ []) refuses 38 at 4)
    ∷ (two_elements (0 ∷ 1 ∷ 3 ∷ []) (22 ∷ 2 ∷ 1 ∷ []) types 1 is rejected (rejection 43 0))
    -- 10 in 8 bytes; −10 and 2^32 + 10
    ∷ (wide_type 10 accepts record { validated = 8; skipped = 0; zones = 1; sections = 1 })
    ∷ (wide_type 10 reads 1 from 4 is answer (pos 5))
    ∷ (wide_type (256 ^ 8 - 10) refuses 38 at 4)
    ∷ (wide_type 4294967306 refuses 38 at 4)
    ∷ (wide_type 4294967306 types 1 is rejected (rejection 43 0))
    -- a type that does not fit its offsets, in the offsets and in the type; with a node 11 before it
    ∷ (two_elements (0 ∷ 8 ∷ 16 ∷ []) (hexahedron 17 (14 ∷ 5 ∷ 6 ∷ 9 ∷ 8 ∷ 7 ∷ 10 ∷ [])) refuses 38 at 4)
    ∷ (with_types 17 12 10 refuses 38 at 4)
    ∷ (with_types 17 12 10 reads 2 from 1 is rejected (rejection 43 0))
    ∷ (two_elements (0 ∷ 5 ∷ 9 ∷ []) (10 ∷ 11 ∷ 2 ∷ 3 ∷ 4 ∷ 7 ∷ 1 ∷ 2 ∷ 3 ∷ []) refuses 38 at 4)
    -- a node 11, a node 0; the types 17 and 14, above VertexSize too, are no nodes
    ∷ (with_types 17 14 11 refuses 34 at 4 place 16)
    ∷ (with_types 17 14 0 refuses 34 at 4 place 16)
    -- offsets as for 22: their number, the first, the rise, the last; 33 never: one node
    ∷ (two_elements (0 ∷ 9 ∷ []) (hexahedron 17 (14 ∷ 5 ∷ 6 ∷ 9 ∷ 8 ∷ 7 ∷ 10 ∷ [])) refuses 29 at 4)
    ∷ (two_elements (1 ∷ 9 ∷ 16 ∷ []) (hexahedron 17 (14 ∷ 5 ∷ 6 ∷ 9 ∷ 8 ∷ 7 ∷ 10 ∷ [])) refuses 30 at 4)
    ∷ (two_elements (0 ∷ 0 ∷ 16 ∷ []) (hexahedron 17 (14 ∷ 5 ∷ 6 ∷ 9 ∷ 8 ∷ 7 ∷ 10 ∷ [])) refuses 31 at 4)
    ∷ (two_elements (0 ∷ 9 ∷ 15 ∷ []) (hexahedron 17 (14 ∷ 5 ∷ 6 ∷ 9 ∷ 8 ∷ 7 ∷ 10 ∷ [])) refuses 32 at 4)
    ∷ (two_elements (0 ∷ 2 ∷ 5 ∷ []) (2 ∷ 1 ∷ 3 ∷ 1 ∷ 2 ∷ []) accepts record { validated = 8; skipped = 0; zones = 1; sections = 1 })
    -- §5 a second child of each label allowed once: under its fixed name, under another
    ∷ (in_block (version "CGNSLibraryVersion" 0 ∷ version "CGNSLibraryVersion" 0 ∷ []) refuses 11 at 6)
    ∷ (in_block (version "CGNSLibraryVersion" 0 ∷ version "Version" 0 ∷ []) refuses 21 at 6)
    ∷ (in_block (zone_type "ZoneType" ∷ []) refuses 11 at 5)
    ∷ (in_block (zone_type "Type" ∷ []) refuses 21 at 5)
    ∷ (in_block (rind "Rind" 4 ∷ rind "Rind" 4 ∷ []) refuses 11 at 6)
    ∷ (in_block (rind "Rind" 4 ∷ rind "Rind1" 4 ∷ []) refuses 21 at 6)
    ∷ (in_block (location "GridLocation" 4 ∷ location "GridLocation" 4 ∷ []) refuses 11 at 6)
    ∷ (in_block (location "GridLocation" 4 ∷ location "Location" 4 ∷ []) refuses 21 at 6)
    ∷ (in_block (plan "Grid" "GridCoordinates_t" "MT" [] 2 [] ∷ rind "Rind" 5 ∷ rind "Rind1" 5 ∷ []) refuses 21 at 7)
    -- 22 would see the later one of two: 11 and 21 come before it
    ∷ (in_block (rind "Rind" 4 ∷ rind "Rind" 4 ∷ []) seconds 6 is true)
    ∷ (in_block (rind "Rind" 4 ∷ rind "Rind1" 4 ∷ []) seconds 6 is true)
    ∷ (in_block (rind "Rind" 4 ∷ rind "Rind1" 4 ∷ []) seconds 5 is false)
    -- the first under another name, or both; two such zone types: the zone has none
    ∷ (in_block (rind "Rind1" 4 ∷ rind "Rind" 4 ∷ []) refuses 21 at 5)
    ∷ (in_block (rind "Rind1" 4 ∷ rind "Rind1" 4 ∷ []) refuses 11 at 6)
    ∷ (flow block (zone_type "Type") (zone_type "Type1" ∷ []) refuses 23 at 2)
    -- under a zone, which may hold none; below a UserDefinedData_t; one in each of two flow solutions; a label that may come again
    ∷ (in_block (rind "Rind" 2 ∷ rind "Rind1" 2 ∷ []) refuses 20 at 5)
    ∷ (in_block (plan "Own" "UserDefinedData_t" "MT" [] 4 [] ∷ rind "Rind1" 5 ∷ rind "Rind2" 5 ∷ [])
    accepts record { validated = 6; skipped = 2; zones = 1; sections = 0 })
    ∷ (in_block (rind "Rind" 4 ∷ plan "Other" "FlowSolution_t" "MT" [] 2 [] ∷ rind "Rind" 6 ∷ [])
    accepts record { validated = 8; skipped = 0; zones = 1; sections = 0 })
    ∷ (in_block (plan "Note" "Descriptor_t" "C1" (1 ∷ []) 4 (65 ∷ []) ∷ plan "Note1" "Descriptor_t" "C1" (1 ∷ []) 4 (65 ∷ []) ∷ [])
    accepts record { validated = 7; skipped = 0; zones = 1; sections = 0 })
    -- §6 the first failing entry decides, before the lowest number
    ∷ (with_faces (1 ∷ 5 ∷ 6 ∷ 0 ∷ []) refuses 37 at 13 place 2)
    ∷ (with_faces (6 ∷ 0 ∷ 5 ∷ 4 ∷ []) refuses 36 at 13 place 1)
    ∷ (with_faces (minus 1 ∷ 2 ∷ 0 ∷ minus 5 ∷ []) refuses 35 at 13 place 3)
    ∷ (with_faces (1 ∷ minus 5 ∷ 0 ∷ 6 ∷ []) refuses 37 at 13 place 2)
    -- in a second cell; a cell of the same section, itself, none
    ∷ (with_cells (5 ∷ 6 ∷ []) (0 ∷ 4 ∷ 8 ∷ []) (1 ∷ 2 ∷ 3 ∷ 4 ∷ minus 1 ∷ minus 2 ∷ 5 ∷ 0 ∷ []) refuses 37 at 13 place 7)
    ∷ (with_cells (5 ∷ 6 ∷ []) (0 ∷ 4 ∷ 8 ∷ []) (1 ∷ 2 ∷ 3 ∷ 4 ∷ minus 1 ∷ minus 2 ∷ minus 3 ∷ 6 ∷ []) refuses 37 at 13 place 8)
    ∷ (with_cells (5 ∷ 6 ∷ []) (0 ∷ 4 ∷ 8 ∷ []) (1 ∷ 2 ∷ 3 ∷ 4 ∷ minus 1 ∷ minus 2 ∷ minus 3 ∷ 7 ∷ []) refuses 36 at 13 place 8)
    -- other calls give the entry too; other refusals have none
    ∷ (with_faces (1 ∷ 5 ∷ 6 ∷ 0 ∷ []) reports record { rule = 37; node = 13; entry = 2; element = 0 })
    ∷ (with_offsets (0 ∷ 3 ∷ 6 ∷ 6 ∷ 12 ∷ []) reports record { rule = 31; node = 9; entry = 0; element = 0 })
    ∷ (with_faces (1 ∷ 2 ∷ 3 ∷ 3 ∷ []) repeats rejected (record { rule = 45; node = 13; entry = 0; element = 5 }))
    -- the words of the exports: node, entry, then the counts of validation; node, entry, element and count of face usage
    ∷ (with_faces (1 ∷ 5 ∷ 6 ∷ 0 ∷ []) tells (13 ∷ 2 ∷ 0 ∷ 0 ∷ 0 ∷ 0 ∷ []) also-of-faces (13 ∷ 2 ∷ 0 ∷ 0 ∷ []))
    ∷ (with_faces (1 ∷ 2 ∷ 3 ∷ 3 ∷ []) tells (0 ∷ 0 ∷ 17 ∷ 0 ∷ 1 ∷ 2 ∷ []) also-of-faces (13 ∷ 0 ∷ 5 ∷ 0 ∷ []))
    -- nodes: the first of two; in a section of triangles; in a MIXED section the place counts the type numbers
    ∷ (tetrahedron (1 ∷ 4 ∷ []) (0 ∷ 3 ∷ 6 ∷ 9 ∷ 12 ∷ []) (1 ∷ 3 ∷ 2 ∷ 1 ∷ 5 ∷ 4 ∷ 2 ∷ 3 ∷ 0 ∷ 3 ∷ 1 ∷ 4 ∷ []) (1 ∷ 2 ∷ 3 ∷ 4 ∷ []) refuses 34 at 9 place 5)
    ∷ (two_of 5 (0 ∷ 3 ∷ 6 ∷ []) (1 ∷ 2 ∷ 3 ∷ 4 ∷ 11 ∷ 6 ∷ []) refuses 34 at 4 place 5)
    ∷ (two_elements (0 ∷ 5 ∷ 9 ∷ []) (10 ∷ 1 ∷ 2 ∷ 3 ∷ 4 ∷ 5 ∷ 11 ∷ 0 ∷ 3 ∷ []) refuses 34 at 4 place 7)
    ∷ (two_elements (0 ∷ 5 ∷ 9 ∷ []) (10 ∷ 11 ∷ 2 ∷ 3 ∷ 4 ∷ 5 ∷ 11 ∷ 2 ∷ 3 ∷ []) refuses 34 at 4 place 2)
    -- faces after their cells
    ∷ (cell_first (refer (1 ∷ 2 ∷ 3 ∷ 4 ∷ [])) [] accepts record { validated = 12; skipped = 0; zones = 1; sections = 2 })
    -- −2^63, 2^32 + 4, −4
    ∷ (wide_face (2 ^ 63) refuses 36 at 4 place 4)
    ∷ (wide_face 4294967300 refuses 36 at 4 place 4)
    ∷ (wide_face (256 ^ 8 - 4) accepts record { validated = 12; skipped = 0; zones = 1; sections = 2 })
    -- elements of a later section: triangles, MIXED, cells, a type that is not taken
    ∷ (to_other (5 ∷ 0 ∷ []) (6 ∷ 6 ∷ []) (1 ∷ 2 ∷ 3 ∷ []) refuses 37 at 4 place 4)
    ∷ (to_other (20 ∷ 0 ∷ []) (6 ∷ 6 ∷ []) (5 ∷ 1 ∷ 2 ∷ 3 ∷ []) refuses 37 at 4 place 4)
    ∷ (to_other (23 ∷ 0 ∷ []) (6 ∷ 6 ∷ []) (1 ∷ 2 ∷ 3 ∷ 4 ∷ []) refuses 37 at 4 place 4)
    ∷ (to_other (24 ∷ 0 ∷ []) (6 ∷ 6 ∷ []) (1 ∷ 2 ∷ 3 ∷ []) refuses 37 at 4 place 4)
    -- faces of a later section; where its own data break 24, or 25, or its range does not conform: no elements
    ∷ (to_other (22 ∷ 0 ∷ []) (6 ∷ 6 ∷ []) (1 ∷ 2 ∷ 3 ∷ []) accepts record { validated = 16; skipped = 0; zones = 1; sections = 3 })
    ∷ (to_other (22 ∷ []) (6 ∷ 6 ∷ []) (1 ∷ 2 ∷ 3 ∷ []) refuses 36 at 4 place 4)
    ∷ (to_other (22 ∷ minus 1 ∷ []) (6 ∷ 6 ∷ []) (1 ∷ 2 ∷ 3 ∷ []) refuses 36 at 4 place 4)
    ∷ (to_other (22 ∷ 0 ∷ []) (0 ∷ 6 ∷ []) (1 ∷ 2 ∷ 3 ∷ []) refuses 36 at 4 place 4)
    -- ranges that meet: an element of a face section is a face, and 28 comes later
    ∷ (to_other (22 ∷ 0 ∷ []) (3 ∷ 6 ∷ []) (1 ∷ 2 ∷ 3 ∷ []) refuses 28 at 12)
    ∷ (cell_first (refer (1 ∷ 2 ∷ 3 ∷ 4 ∷ [])) (another 12 2 (5 ∷ 0 ∷ []) (4 ∷ 4 ∷ []) (1 ∷ 2 ∷ 3 ∷ [])) refuses 28 at 12)
    ∷ (cell_first (refer (1 ∷ 2 ∷ 3 ∷ 5 ∷ [])) (another 12 2 (22 ∷ 0 ∷ []) (5 ∷ 5 ∷ []) (1 ∷ 2 ∷ 3 ∷ [])) refuses 28 at 12)
    -- an element of an earlier section
    ∷ (cell_first (refer (1 ∷ 2 ∷ 3 ∷ 4 ∷ [])) (another 12 2 (23 ∷ 0 ∷ []) (6 ∷ 6 ∷ []) (1 ∷ 2 ∷ 3 ∷ 5 ∷ [])) refuses 37 at 12 place 4)
    -- elements of another zone
    ∷ (cell_first (refer (1 ∷ 2 ∷ 3 ∷ 6 ∷ []))
    (plan "Zone2" "Zone_t" "I4" (1 ∷ 3 ∷ []) 1 (all_bytes 4 (4 ∷ 1 ∷ 0 ∷ []))
    ∷ plan "ZoneType" "ZoneType_t" "C1" (12 ∷ []) 12 (text "Unstructured")
    ∷ another 14 12 (22 ∷ 0 ∷ []) (6 ∷ 6 ∷ []) (1 ∷ 2 ∷ 3 ∷ []))
    refuses 36 at 4 place 4)
    ∷ []

-- §7's
abbrev of_parents_lem : List Case
of_parents_lem =
    -- §7 the cell beside each face, and it agrees; the words of the exports; a face that is none, 0, another zone
    (with_parents alone accepts record { validated = 18; skipped = 0; zones = 1; sections = 2 })
    ∷ (with_parents alone enters 9 place 1944 width 4)
    ∷ (with_parents alone parents 4 are answer (record { first = 5; second = 0 }))
    ∷ (with_parents alone agrees answer true room 6 leaving (1 ∷ 1 ∷ 1 ∷ 1 ∷ 9 ∷ 9 ∷ []))
    ∷ (with_parents alone says (0 ∷ 0 ∷ 5 ∷ 0 ∷ []) also-of-agreement (0 ∷ 0 ∷ 0 ∷ 1 ∷ []))
    ∷ (with_parents alone parents 5 are rejected (rejection 41 0))
    ∷ (with_parents alone parents 0 are rejected (rejection 41 0))
    -- one second parent 5
    ∷ (with_parents (5 ∷ 5 ∷ 5 ∷ 5 ∷ 0 ∷ 0 ∷ 5 ∷ 0 ∷ []) parents 3 are answer (record { first = 5; second = 5 }))
    ∷ (with_parents (5 ∷ 5 ∷ 5 ∷ 5 ∷ 0 ∷ 0 ∷ 5 ∷ 0 ∷ []) agrees answer false room 4 leaving (1 ∷ 1 ∷ 1 ∷ 1 ∷ []))
    -- one cell on both sides of face 3; face 4 of no cell
    ∷ (with_array (four_pairs (5 ∷ 5 ∷ 5 ∷ 5 ∷ 0 ∷ 0 ∷ 5 ∷ 0 ∷ [])) (1 ∷ 2 ∷ 3 ∷ minus 3 ∷ minus 4 ∷ []) agrees answer true room 6 leaving (1 ∷ 1 ∷ 3 ∷ 2 ∷ 9 ∷ 9 ∷ []))
    ∷ (with_array (four_pairs alone) (1 ∷ 2 ∷ 3 ∷ minus 3 ∷ minus 4 ∷ []) agrees answer false room 6 leaving (1 ∷ 1 ∷ 3 ∷ 2 ∷ 9 ∷ 9 ∷ []))
    ∷ (with_array (four_pairs (5 ∷ 5 ∷ 5 ∷ 5 ∷ 0 ∷ 0 ∷ 5 ∷ 0 ∷ [])) (1 ∷ 2 ∷ 3 ∷ minus 3 ∷ []) agrees answer false room 6 leaving (1 ∷ 1 ∷ 3 ∷ 0 ∷ 9 ∷ 9 ∷ []))
    -- two cells, in either order; one of them twice, or alone
    ∷ (with_two_cells (5 ∷ 6 ∷ 5 ∷ 6 ∷ 6 ∷ 5 ∷ 6 ∷ 5 ∷ []) parents 2 are answer (record { first = 6; second = 5 }))
    ∷ (with_two_cells (5 ∷ 6 ∷ 5 ∷ 6 ∷ 6 ∷ 5 ∷ 6 ∷ 5 ∷ []) parents 3 are answer (record { first = 5; second = 6 }))
    ∷ (with_two_cells (5 ∷ 6 ∷ 5 ∷ 6 ∷ 6 ∷ 5 ∷ 6 ∷ 5 ∷ []) agrees answer true room 4 leaving (3 ∷ 3 ∷ 3 ∷ 3 ∷ []))
    ∷ (with_two_cells (5 ∷ 6 ∷ 5 ∷ 5 ∷ 6 ∷ 5 ∷ 6 ∷ 5 ∷ []) agrees answer false room 4 leaving (3 ∷ 3 ∷ 3 ∷ 3 ∷ []))
    ∷ (with_two_cells (5 ∷ 6 ∷ 5 ∷ 5 ∷ 6 ∷ 5 ∷ 6 ∷ 0 ∷ []) agrees answer false room 4 leaving (3 ∷ 3 ∷ 3 ∷ 3 ∷ []))
    -- two face sections: the parents of one alone are asked, and its faces need not begin with 1
    ∷ (with_two_sections enters 9 place 0 width 0)
    ∷ (with_two_sections enters 17 place 2348 width 8)
    ∷ (with_two_sections parents 6 are answer (record { first = 5; second = 0 }))
    ∷ (with_two_sections parents 4 are rejected (rejection 54 0))
    ∷ (with_two_sections agrees answer true room 6 leaving (1 ∷ 1 ∷ 1 ∷ 0 ∷ 1 ∷ 9 ∷ []))
    -- 39: MT, [2, n], one dimension, a first 0, a face, no element, −5
    ∷ (with_array (other "DataArray_t" "MT" 9) (1 ∷ 2 ∷ 3 ∷ 4 ∷ []) refuses 39 at 9)
    ∷ (with_array (parent_array "DataArray_t" (2 ∷ 4 ∷ []) alone) (1 ∷ 2 ∷ 3 ∷ 4 ∷ []) refuses 39 at 9)
    ∷ (with_array (parent_array "DataArray_t" (8 ∷ []) alone) (1 ∷ 2 ∷ 3 ∷ 4 ∷ []) refuses 39 at 9)
    ∷ (with_parents (5 ∷ 5 ∷ 5 ∷ 0 ∷ 0 ∷ 0 ∷ 0 ∷ 0 ∷ []) refuses 39 at 9)
    ∷ (with_parents (5 ∷ 5 ∷ 5 ∷ 5 ∷ 0 ∷ 0 ∷ 0 ∷ 4 ∷ []) refuses 39 at 9)
    ∷ (with_parents (5 ∷ 5 ∷ 5 ∷ 5 ∷ 0 ∷ 0 ∷ 0 ∷ 6 ∷ []) refuses 39 at 9)
    ∷ (with_parents (5 ∷ 5 ∷ 5 ∷ minus 5 ∷ 0 ∷ 0 ∷ 0 ∷ 0 ∷ []) refuses 39 at 9)
    -- after the rules of its entries, before those of a later section
    ∷ (tetrahedron_with (four_pairs (replicate 8 0) ∷ []) (3 ∷ 3 ∷ []) (1 ∷ 4 ∷ []) (0 ∷ 3 ∷ 6 ∷ 9 ∷ 12 ∷ [])
    (5 ∷ 3 ∷ 2 ∷ 1 ∷ 2 ∷ 4 ∷ 2 ∷ 3 ∷ 4 ∷ 3 ∷ 1 ∷ 4 ∷ []) (5 ∷ 5 ∷ []) (0 ∷ 4 ∷ []) (1 ∷ 2 ∷ 3 ∷ 4 ∷ []) refuses 34 at 9 place 1)
    ∷ (with_array (four_pairs (replicate 8 0)) (1 ∷ 2 ∷ 3 ∷ 5 ∷ []) refuses 39 at 9)
    -- under another label it is absent; in a cell section it is an array like others
    ∷ (with_array (other "ParentElements_t" "MT" 9) (1 ∷ 2 ∷ 3 ∷ 4 ∷ []) accepts record { validated = 17; skipped = 1; zones = 1; sections = 2 })
    ∷ (with_array (other "ParentElements_t" "MT" 9) (1 ∷ 2 ∷ 3 ∷ 4 ∷ []) parents 4 are rejected (rejection 54 0))
    ∷ (with_array (other "DataArray_t" "MT" 13) (1 ∷ 2 ∷ 3 ∷ 4 ∷ []) refuses 24 at 17)
    ∷ (with_array (integers "ParentElements" "DataArray_t" (9 ∷ []) 13) (1 ∷ 2 ∷ 3 ∷ 4 ∷ []) accepts record { validated = 18; skipped = 0; zones = 1; sections = 2 })
    ∷ (with_array (integers "ParentElements" "DataArray_t" (9 ∷ []) 13) (1 ∷ 2 ∷ 3 ∷ 4 ∷ []) enters 13 place 0 width 0)
    -- no array: 54 by both calls; then 44, and 45 with its bytes
    ∷ (tetra enters 9 place 0 width 0)
    ∷ (tetra parents 4 are rejected (rejection 54 0))
    ∷ (tetra agrees rejected (rejection 54 0) room 6 leaving (9 ∷ 9 ∷ 9 ∷ 9 ∷ 9 ∷ 9 ∷ []))
    ∷ (tetra agrees rejected (rejection 54 0) room 3 leaving (9 ∷ 9 ∷ 9 ∷ []))
    ∷ (tetra says (0 ∷ 0 ∷ 0 ∷ 0 ∷ []) also-of-agreement (0 ∷ 0 ∷ 0 ∷ 0 ∷ []))
    ∷ (with_parents alone agrees rejected (rejection 44 0) room 3 leaving (9 ∷ 9 ∷ 9 ∷ []))
    ∷ (with_array (four_pairs alone) (1 ∷ 2 ∷ 3 ∷ 3 ∷ []) agrees rejected (repetition 13 5) room 5 leaving (0 ∷ 0 ∷ 0 ∷ 0 ∷ 9 ∷ []))
    ∷ []

infixr 5 ◌also◌
◌also◌ : {A B : Type 0} → A → B → A × B
a also b = (a, b)

earlier_right : Right earlier
unfolding computed once_only same_role second
earlier_right =
    refl also refl also refl also refl also refl also refl also refl also refl also refl also refl also refl also refl also refl also refl
    also (refl, refl) also refl also (refl, refl) also refl also refl
    also refl also refl also refl also refl also refl also refl also refl also refl also refl also refl
    also refl also refl also refl also refl also refl also refl also refl also refl also refl
    also refl also refl also refl also refl also refl also refl also refl also refl also refl
    also refl also refl also refl also refl also refl also refl also refl also refl
    also refl also refl also refl also refl also refl also refl also refl also refl also refl
    also refl also refl also refl also refl also refl also refl also refl also refl also refl also refl
    also refl also refl also refl also refl also refl also refl also refl also refl
    also refl also refl also refl also refl also refl also refl also refl also refl also refl
    also refl also refl also refl also refl also refl also refl also refl
    also refl also refl also refl also refl
    also refl also refl also refl also refl also refl also refl also refl also refl also refl also refl
    also refl also refl also refl also refl also refl also refl also refl also refl also refl
    also refl also refl also refl also refl also refl also refl also refl
    also (refl, refl, refl) also (refl, refl, refl) also (refl, refl) also (refl, refl) also (refl, refl)
    also refl also refl also refl also refl also refl also refl also refl also refl
    also refl also refl also refl also refl also refl also refl also refl also refl also refl also refl also refl also refl also refl also tt

parents_right : Right of_parents_lem
unfolding computed
parents_right =
    refl also (refl, refl) also refl also (refl, refl) also (refl, refl) also refl also refl also refl also (refl, refl)
    also (refl, refl) also (refl, refl) also (refl, refl) also refl also refl also (refl, refl) also (refl, refl) also (refl, refl) also (refl, refl)
    also (refl, refl) also refl also refl also (refl, refl) also refl also refl also refl also refl also refl
    also refl also refl also refl also refl also refl also refl also refl also refl also (refl, refl)
    also (refl, refl) also refl also (refl, refl) also (refl, refl) also (refl, refl) also (refl, refl) also (refl, refl) also tt

both_right : (xs ys : List Case) → Right xs → Right ys → Right (xs ++ ys)
both_right [] ys r q = q
both_right (x ∷ xs) ys r q = (r.0, both_right xs ys r.1 q)

abbrev pub cases : List Case
cases = earlier ++ of_parents_lem

pub all_right : Right cases
all_right = both_right earlier of_parents_lem earlier_right parents_right
