-- Document 01, "Placing and meaning", continued, with document 02, §1: types, values and sizes. Rules 20 to 26.
use Rattle.std.specs.Prelude.{ℕ, zero, suc, ◌+◌, ◌*◌, ◌-◌, Bool, true, false, cond, not, ◌&&◌, ◌||◌, List, [], ◌∷◌, length, get_or, eqb, leb}
use Rattle.model.specs.Lists.{◌⊃◌, ◌has◌, row, among, some_from, every_from}
use Rattle.model.specs.Bytes.{below, magnitude, distance, text, same, spells}
use Rattle.model.specs.Rules.{Rule, ◌unless◌}
use Rattle.model.specs.Image.{Tree, name, parent, dimensions, stored, data_type_of, width, number, MT, C1, I4, R4, I8, R8}
use Rattle.model.specs.Containment.{LibraryVersion, Base, Zone, ZoneType, GridCoordinates, FlowSolution, Elements, IndexRange, Rind, GridLocation, DataArray, Descriptor, UserDefinedData, IndexArray, Root, role, may_hold, fixed_names, fixed_name, child, found, or_missing}

-- the greatest size, rind number and element number, and the greatest magnitude in a PointRange
abbrev pub max_number : ℕ
max_number = 2147483647

-- the data type is one of these; the dimensions are these; there is one dimension; the data are these bytes
unfoldable pub typed : Tree → ℕ → List ℕ → Bool
typed t i types = among (data_type_of t i) types

unfoldable pub shaped : Tree → ℕ → List ℕ → Bool
shaped t i sizes = same (dimensions t i) sizes

unfoldable pub flat : Tree → ℕ → Bool
flat t i = eqb (length (dimensions t i)) 1

unfoldable pub reads : Tree → ℕ → List ℕ → Bool
reads t i s = same (stored t i) s

-- how many numbers a node with one dimension stores
unfoldable pub size : Tree → ℕ → ℕ
size t i = get_or (dimensions t i) 0 0

-- ZoneType_t: C1 with one dimension, exactly Structured or Unstructured
unfoldable pub zone_type_shape : Tree → ℕ → Bool
zone_type_shape t i = typed t i (C1 ∷ []) && flat t i

unfoldable pub zone_type_value : Tree → ℕ → Bool
zone_type_value t i = reads t i (text "Structured") || reads t i (text "Unstructured")

-- the zone's conforming ZoneType
unfoldable pub zone_type_of : Tree → ℕ → ℕ
zone_type_of t z = let j = child t z ZoneType (text "ZoneType") in or_missing t (zone_type_shape t j && zone_type_value t j) j

unfoldable pub structured : Tree → ℕ → Bool
structured t z = reads t (zone_type_of t z) (text "Structured")

unfoldable pub unstructured : Tree → ℕ → Bool
unstructured t z = reads t (zone_type_of t z) (text "Unstructured")

-- CellDimension of a base; IndexDimension of a zone
unfoldable pub cell_dimension : Tree → ℕ → ℕ
cell_dimension t b = number t b 0

unfoldable pub index_dimension : Tree → ℕ → ℕ
index_dimension t z = cond (structured t z) (cell_dimension t (parent t z)) 1

-- a zone's sizes, one number a direction: VertexSize first, then CellSize, then VertexSizeBoundary
unfoldable pub vertex_size : Tree → ℕ → ℕ → ℕ
vertex_size t z d = number t z d

unfoldable pub cell_size : Tree → ℕ → ℕ → ℕ
cell_size t z d = number t z (index_dimension t z + d)

unfoldable pub boundary_size : Tree → ℕ → ℕ → ℕ
boundary_size t z d = number t z (2 * index_dimension t z + d)

-- structured: VertexSize at least 2, CellSize = VertexSize − 1, boundary 0
unfoldable pub structured_sizes : Tree → ℕ → ℕ → Bool
structured_sizes t z d =
    leb 2 (vertex_size t z d) && leb (vertex_size t z d) max_number && eqb (cell_size t z d + 1) (vertex_size t z d) && eqb (boundary_size t z d) 0

-- unstructured: VertexSize at least 1, CellSize at least 0, boundary 0 to VertexSize
unfoldable pub unstructured_sizes : Tree → ℕ → ℕ → Bool
unstructured_sizes t z d =
    leb 1 (vertex_size t z d) && leb (vertex_size t z d) max_number && leb (cell_size t z d) max_number && leb (boundary_size t z d) (vertex_size t z d)

unfoldable pub zone_value : Tree → ℕ → Bool
zone_value t z =
    cond (structured t z) (every_from (structured_sizes t z) (index_dimension t z) 0) (every_from (unstructured_sizes t z) (index_dimension t z) 0)

-- CGNSBase_t: CellDimension 1 to 3, PhysicalDimension from that to 3
unfoldable pub base_value : Tree → ℕ → Bool
base_value t i = leb 1 (number t i 0) && leb (number t i 0) (number t i 1) && leb (number t i 1) 3

-- ElementRange: 1 ≤ first ≤ last ≤ 2,147,483,647
unfoldable pub range_value : Tree → ℕ → Bool
range_value t i = leb 1 (number t i 0) && leb (number t i 0) (number t i 1) && leb (number t i 1) max_number

-- Rind_t: none negative
unfoldable pub not_negative : Tree → ℕ → ℕ → Bool
not_negative t i k = leb (number t i k) max_number

unfoldable pub rind_value : Tree → ℕ → Bool
rind_value t i = every_from (not_negative t i) (size t i) 0

-- GridLocation_t: exactly Vertex or CellCenter
unfoldable pub location_value : Tree → ℕ → Bool
location_value t i = reads t i (text "Vertex") || reads t i (text "CellCenter")

-- the zone of what stands two below it
unfoldable pub zone_above : Tree → ℕ → ℕ
zone_above t i = parent t (parent t i)

-- IndexRange_t: an ElementRange under a section has dimensions [2], a PointRange under flow [IndexDimension, 2]
unfoldable pub range_shape : Tree → ℕ → Bool
range_shape t i =
    row (role t (parent t i)) false
    (Elements has shaped t i (2 ∷ []) ∷ FlowSolution has shaped t i (index_dimension t (zone_above t i) ∷ 2 ∷ []) ∷ [])

-- IndexArray_t: a PointList under flow has dimensions [IndexDimension, count]; the count, and the test
unfoldable pub list_count : Tree → ℕ → ℕ
list_count t i = get_or (dimensions t i) 1 0

unfoldable pub list_shape : Tree → ℕ → Bool
list_shape t i = eqb (role t (parent t i)) FlowSolution && shaped t i (index_dimension t (zone_above t i) ∷ list_count t i ∷ [])

-- PointRange: signed numbers, the begins of all directions, then the ends
unfoldable pub range_begin : Tree → ℕ → ℕ → ℕ
range_begin t i d = number t i d

unfoldable pub range_end : Tree → ℕ → ℕ → ℕ
range_end t i d = number t i (index_dimension t (zone_above t i) + d)

-- within ±2,147,483,647
unfoldable pub bounded : Tree → ℕ → ℕ → Bool
bounded t i x = leb (magnitude (width t i) x) max_number

-- both are, and the begin is at most the end
unfoldable pub direction_lawful : Tree → ℕ → ℕ → Bool
direction_lawful t i d =
    bounded t i (range_begin t i d) && bounded t i (range_end t i d) && not (below (width t i) (range_end t i d) (range_begin t i d))

unfoldable pub point_range_value : Tree → ℕ → Bool
point_range_value t i = every_from (direction_lawful t i) (index_dimension t (zone_above t i)) 0

-- IndexRange_t: the values of an ElementRange or a PointRange
unfoldable pub index_range_value : Tree → ℕ → Bool
index_range_value t i = row (role t (parent t i)) true (Elements has range_value t i ∷ FlowSolution has point_range_value t i ∷ [])

-- the points of a conforming PointRange: end − begin + 1 in direction d; the product in k directions from d on; in all directions
unfoldable pub points_in : Tree → ℕ → ℕ → ℕ
points_in t i d = distance (width t i) (range_end t i d) - distance (width t i) (range_begin t i d) + 1

unfoldable pub points_from : Tree → ℕ → ℕ → ℕ → ℕ
points_from t i zero d = 1
points_from t i (suc k) d = points_in t i d * points_from t i k (suc d)

unfoldable pub points : Tree → ℕ → ℕ
points t i = points_from t i (index_dimension t (zone_above t i)) 0

-- FlowSolution_t: not both a PointRange and a PointList, there by name and label, conforming or not
unfoldable pub not_both : Tree → ℕ → Bool
not_both t p = not (found t (child t p IndexRange (text "PointRange")) && found t (child t p IndexArray (text "PointList")))

-- DataArray_t under a section: ElementConnectivity and ElementStartOffset I4 or I8 with one dimension, others anything but MT; rule 39 has more to say of
-- ParentElements
unfoldable pub element_array : Tree → ℕ → Bool
element_array t i = spells (name t i) (text "ElementConnectivity") || spells (name t i) (text "ElementStartOffset")

unfoldable pub section_array_type : Tree → ℕ → Bool
section_array_type t i = cond (element_array t i) (typed t i (I4 ∷ I8 ∷ []) && flat t i) (not (typed t i (MT ∷ [])))

-- DataArray_t: R4 or R8 under coordinates; I4, I8, R4, R8 under flow
unfoldable pub array_type : Tree → ℕ → Bool
array_type t i =
    row (role t (parent t i)) false
    (GridCoordinates has typed t i (R4 ∷ R8 ∷ [])
    ∷ FlowSolution has typed t i (I4 ∷ I8 ∷ R4 ∷ R8 ∷ [])
    ∷ Elements has section_array_type t i
    ∷ [])

-- 24: data type and dimensions are the label's
unfoldable pub type_lawful : Tree → ℕ → Bool
type_lawful t i =
    row (role t i) false
    (Root has typed t i (MT ∷ [])
    ∷ LibraryVersion has (typed t i (R4 ∷ []) && shaped t i (1 ∷ []))
    ∷ Base has (typed t i (I4 ∷ []) && shaped t i (2 ∷ []))
    ∷ Zone has (typed t i (I4 ∷ I8 ∷ []) && shaped t i (index_dimension t i ∷ 3 ∷ []))
    ∷ ZoneType has zone_type_shape t i
    ∷ GridCoordinates has typed t i (MT ∷ [])
    ∷ FlowSolution has typed t i (MT ∷ [])
    ∷ Elements has (typed t i (I4 ∷ []) && shaped t i (2 ∷ []))
    ∷ IndexRange has (typed t i (I4 ∷ I8 ∷ []) && range_shape t i)
    ∷ Rind has (typed t i (I4 ∷ []) && shaped t i (2 * index_dimension t (zone_above t i) ∷ []))
    ∷ GridLocation has (typed t i (C1 ∷ []) && flat t i)
    ∷ DataArray has array_type t i
    ∷ Descriptor has (typed t i (C1 ∷ []) && flat t i)
    ∷ UserDefinedData has typed t i (MT ∷ [])
    ∷ IndexArray has (typed t i (I4 ∷ I8 ∷ []) && list_shape t i)
    ∷ [])

-- 25: the stored values are permitted
unfoldable pub value_lawful : Tree → ℕ → Bool
value_lawful t i =
    row (role t i) true
    (Base has base_value t i
    ∷ Zone has zone_value t i
    ∷ ZoneType has zone_type_value t i
    ∷ FlowSolution has not_both t i
    ∷ Elements has not_negative t i 1
    ∷ IndexRange has index_range_value t i
    ∷ Rind has rind_value t i
    ∷ GridLocation has location_value t i
    ∷ [])

-- a conforming child (document 01: a looked_up child that counts): it has that name and label and itself meets 24 and 25
unfoldable pub conforming : Tree → ℕ → ℕ → List ℕ → ℕ
conforming t i r n = let j = child t i r n in or_missing t (type_lawful t j && value_lawful t j) j

unfoldable pub range_of : Tree → ℕ → ℕ
range_of t s = conforming t s IndexRange (text "ElementRange")

unfoldable pub offsets_of : Tree → ℕ → ℕ
offsets_of t s = conforming t s DataArray (text "ElementStartOffset")

unfoldable pub connectivity_of : Tree → ℕ → ℕ
connectivity_of t s = conforming t s DataArray (text "ElementConnectivity")

unfoldable pub point_range_of : Tree → ℕ → ℕ
point_range_of t p = conforming t p IndexRange (text "PointRange")

unfoldable pub point_list_of : Tree → ℕ → ℕ
point_list_of t p = conforming t p IndexArray (text "PointList")

-- 20: the placing table has the label under this parent; Elements_t in an unstructured zone only
unfoldable pub placed : Tree → ℕ → Bool
placed t i =
    eqb i 0 || (may_hold (role t (parent t i)) (role t i) && (eqb (role t i) Elements ⊃ unstructured t (parent t i)))

-- 21: the fixed name is used
unfoldable pub named : Tree → ℕ → Bool
named t i = spells (name t i) (fixed_name (role t (parent t i)) (role t i) (name t i) fixed_names)

-- 23: the required children are there; any child labelled CGNSBase_t will do for the root
unfoldable pub base_child : Tree → ℕ → Bool
base_child t j = eqb (parent t j) 0 && eqb (role t j) Base

unfoldable pub complete : Tree → ℕ → Bool
complete t i =
    row (role t i) true
    (Root has some_from (base_child t) t.count 0
    ∷ Zone has found t (zone_type_of t i)
    ∷ Elements has (found t (range_of t i) && found t (connectivity_of t i))
    ∷ [])

-- The zone's sizes under node p: VertexSize, or CellSize for CellCenter, plus in each direction the two rind numbers of that direction.
-- A Rind or GridLocation that does not conform gives the default, zeros and Vertex.
unfoldable pub cell_centred : Tree → ℕ → Bool
cell_centred t p = eqb (role t p) FlowSolution && reads t (conforming t p GridLocation (text "GridLocation")) (text "CellCenter")

unfoldable pub rind_number : Tree → ℕ → ℕ → ℕ
rind_number t p k = number t (conforming t p Rind (text "Rind")) k

unfoldable pub data_size : Tree → ℕ → ℕ → ℕ
data_size t p d =
    cond (cell_centred t p) (cell_size t (parent t p) d) (vertex_size t (parent t p) d)
    + rind_number t p (2 * d)
    + rind_number t p (2 * d + 1)

-- the zone's sizes in k directions from d on, and in all directions
unfoldable pub data_sizes_from : Tree → ℕ → ℕ → ℕ → List ℕ
data_sizes_from t p zero d = []
data_sizes_from t p (suc k) d = data_size t p d ∷ data_sizes_from t p k (suc d)

unfoldable pub sizes_by_zone : Tree → ℕ → List ℕ
sizes_by_zone t p = data_sizes_from t p (index_dimension t (parent t p)) 0

-- DataSize under node p: with a conforming PointRange, else a conforming PointList, one size, the number of its points, and neither rind nor location is
-- consulted; without them the zone's sizes. Only under flow does either conform.
unfoldable pub data_sizes : Tree → ℕ → List ℕ
data_sizes t p =
    cond (found t (point_range_of t p)) (points t (point_range_of t p) ∷ [])
    (cond (found t (point_list_of t p)) (list_count t (point_list_of t p) ∷ []) (sizes_by_zone t p))

-- 26: coordinate and flow arrays have exactly these dimensions
unfoldable pub sized_array : Tree → ℕ → Bool
sized_array t i = eqb (role t i) DataArray && among (role t (parent t i)) (GridCoordinates ∷ FlowSolution ∷ [])

unfoldable pub sizes_lawful : Tree → ℕ → Bool
sizes_lawful t i = sized_array t i ⊃ shaped t i (data_sizes t (parent t i))

-- there is no rule 22 (document 02, §5)
unfoldable pub sids_rules : Tree → ℕ → List Rule
sids_rules t i =
    20 unless placed t i
    ∷ 21 unless named t i
    ∷ 23 unless complete t i
    ∷ 24 unless type_lawful t i
    ∷ 25 unless value_lawful t i
    ∷ 26 unless sizes_lawful t i
    ∷ []
