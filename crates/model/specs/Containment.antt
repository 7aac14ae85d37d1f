-- Document 01, "Placing and meaning", with document 02, §1: the known labels, which parent holds which of them, which nodes are validated, the fixed names.
use Rattle.std.specs.Prelude.{ℕ, zero, suc, Bool, cond, not, ◌&&◌, ◌||◌, List, [], ◌∷◌, eqb, ltb}
use Rattle.model.specs.Lists.{Row, ◌has◌, row, among, seek_from}
use Rattle.model.specs.Bytes.{text, spells, place_from}
use Rattle.model.specs.Image.{Tree, name, label, parent}

infix 68 ◌holds◌called◌
-- the known labels: those of the placing table
unfoldable pub known_labels : List (List ℕ)
known_labels =
    text "CGNSLibraryVersion_t"
    ∷ text "CGNSBase_t"
    ∷ text "Zone_t"
    ∷ text "ZoneType_t"
    ∷ text "GridCoordinates_t"
    ∷ text "FlowSolution_t"
    ∷ text "Elements_t"
    ∷ text "IndexRange_t"
    ∷ text "Rind_t"
    ∷ text "GridLocation_t"
    ∷ text "DataArray_t"
    ∷ text "Descriptor_t"
    ∷ text "UserDefinedData_t"
    ∷ text "IndexArray_t"
    ∷ []

abbrev pub LibraryVersion : ℕ
LibraryVersion = 1

abbrev pub Base : ℕ
Base = 2

abbrev pub Zone : ℕ
Zone = 3

abbrev pub ZoneType : ℕ
ZoneType = 4

abbrev pub GridCoordinates : ℕ
GridCoordinates = 5

abbrev pub FlowSolution : ℕ
FlowSolution = 6

abbrev pub Elements : ℕ
Elements = 7

abbrev pub IndexRange : ℕ
IndexRange = 8

abbrev pub Rind : ℕ
Rind = 9

abbrev pub GridLocation : ℕ
GridLocation = 10

abbrev pub DataArray : ℕ
DataArray = 11

abbrev pub Descriptor : ℕ
Descriptor = 12

abbrev pub UserDefinedData : ℕ
UserDefinedData = 13

abbrev pub IndexArray : ℕ
IndexArray = 14

abbrev pub Root : ℕ
Root = 15

-- what a node is validated as: its label's place among the known ones, 0 for any other label; node 0 is the root whatever its label
unfoldable pub role : Tree → ℕ → ℕ
role t i = cond (eqb i 0) Root (place_from 1 (label t i) known_labels)

-- the placing table
unfoldable pub containment : List (Row (List ℕ))
containment =
    Root has (LibraryVersion ∷ Base ∷ [])
    ∷ Base has (Zone ∷ Descriptor ∷ UserDefinedData ∷ [])
    ∷ Zone has (ZoneType ∷ GridCoordinates ∷ FlowSolution ∷ Elements ∷ Descriptor ∷ UserDefinedData ∷ [])
    ∷ GridCoordinates has (Rind ∷ DataArray ∷ Descriptor ∷ UserDefinedData ∷ [])
    ∷ FlowSolution has (GridLocation ∷ Rind ∷ IndexRange ∷ IndexArray ∷ DataArray ∷ Descriptor ∷ UserDefinedData ∷ [])
    ∷ Elements has (IndexRange ∷ Rind ∷ DataArray ∷ Descriptor ∷ UserDefinedData ∷ [])
    ∷ DataArray has (Descriptor ∷ [])
    ∷ []

unfoldable pub may_hold : ℕ → ℕ → Bool
may_hold above below = among below (row above [] containment)

-- validated (document 01: judged): the root; another node when its label is known, and its parent is validated and is the root or no UserDefinedData_t.
-- At most d steps up; a parent has a lower number, so i steps are enough.
unfoldable pub validated_within : Tree → ℕ → ℕ → Bool
validated_within t zero i = eqb i 0
validated_within t (suc d) i =
    let above = validated_within t d (parent t i) in
    eqb i 0 || (ltb 0 (role t i) && not (eqb (role t (parent t i)) UserDefinedData) && above)

unfoldable pub validated : Tree → ℕ → Bool
validated t i = validated_within t i i

-- skipped (document 01: passed over): every other node
unfoldable pub skipped : Tree → ℕ → Bool
skipped t i = not (validated t i)

unfoldable pub validated_as : Tree → ℕ → ℕ → Bool
validated_as t r i = eqb (role t i) r && validated t i

-- a validated node of the kind asked for
unfoldable pub is_zone : Tree → ℕ → Bool
is_zone t z = ltb z t.count && validated_as t Zone z

-- a section: a validated Elements_t child of the zone
unfoldable pub section_of : Tree → ℕ → ℕ → Bool
section_of t z s = eqb (parent t s) z && validated_as t Elements s

-- the fixed names
pub data Named : Type 0 where
  ◌holds◌called◌ : ℕ → ℕ → List ℕ → Named

unfoldable pub fixed_names : List Named
fixed_names =
    Root holds LibraryVersion called text "CGNSLibraryVersion"
    ∷ Zone holds ZoneType called text "ZoneType"
    ∷ GridCoordinates holds Rind called text "Rind"
    ∷ FlowSolution holds Rind called text "Rind"
    ∷ FlowSolution holds GridLocation called text "GridLocation"
    ∷ FlowSolution holds IndexRange called text "PointRange"
    ∷ FlowSolution holds IndexArray called text "PointList"
    ∷ Elements holds Rind called text "Rind"
    ∷ Elements holds IndexRange called text "ElementRange"
    ∷ []

-- the fixed name of a child, else the name that it has
unfoldable pub fixed_name : ℕ → ℕ → List ℕ → List Named → List ℕ
fixed_name above below default [] = default
fixed_name above below default ((a holds b called n) ∷ rest) =
    let later = fixed_name above below default rest in cond (eqb above a && eqb below b) n later

-- a child of node i with that label and name
unfoldable pub is_child : Tree → ℕ → ℕ → List ℕ → ℕ → Bool
is_child t i r n j = eqb (parent t j) i && eqb (role t j) r && spells (name t j) n

-- the first of them (rule 11: the only one); the node count where there is none
unfoldable pub child : Tree → ℕ → ℕ → List ℕ → ℕ
child t i r n = seek_from (is_child t i r n) t.count 0

unfoldable pub found : Tree → ℕ → Bool
found t j = ltb j t.count

-- a child that does not conform is missing
unfoldable pub or_missing : Tree → Bool → ℕ → ℕ
or_missing t conforms j = cond conforms j t.count
