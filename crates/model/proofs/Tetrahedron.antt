-- Document 01's tetrahedron as a list of nodes: the worked cases are made from it.
use Prim.Native.Nat.{ℕ}
use Prim.Native.String.{String}
use mathlib.Core.List.{List, [], ◌∷◌}
use lib.ListN.{length, replicate}
use Rattle.model.specs.Bytes.{all_bytes, text}
use Rattle.model.specs.Build.{Plan, plan}

-- the root that real files have
abbrev pub root_plan : Plan
root_plan = plan "HDF5 MotherNode" "Root Node of HDF5 File" "MT" [] 4294967295 []

abbrev pub integers : String → String → List ℕ → ℕ → Plan
integers name label xs up = plan name label "I4" (length xs ∷ []) up (all_bytes 4 xs)

-- an R8 array of four: no rule looks at a coordinate's values
abbrev pub axis : String → Plan
axis name = plan name "DataArray_t" "R8" (4 ∷ []) 5 (replicate 32 0)

-- the tetrahedron, over nodes from node 17 on, the base's CellDimension and PhysicalDimension, and range, start offsets and connectivity of its faces
-- and its cells
abbrev pub tetrahedron_plans : List Plan → List ℕ → List ℕ → List ℕ → List ℕ → List ℕ → List ℕ → List ℕ → List Plan
tetrahedron_plans others base range offsets nodes cells starts faces =
    root_plan
    ∷ plan "CGNSLibraryVersion" "CGNSLibraryVersion_t" "R4" (1 ∷ []) 0 (102 ∷ 102 ∷ 134 ∷ 64 ∷ [])
    ∷ integers "Base" "CGNSBase_t" base 0
    ∷ plan "Zone1" "Zone_t" "I4" (1 ∷ 3 ∷ []) 2 (all_bytes 4 (4 ∷ 1 ∷ 0 ∷ []))
    ∷ plan "ZoneType" "ZoneType_t" "C1" (12 ∷ []) 3 (text "Unstructured")
    ∷ plan "GridCoordinates" "GridCoordinates_t" "MT" [] 3 []
    ∷ axis "CoordinateX"
    ∷ axis "CoordinateY"
    ∷ axis "CoordinateZ"
    ∷ integers "Faces" "Elements_t" (22 ∷ 0 ∷ []) 3
    ∷ integers "ElementRange" "IndexRange_t" range 9
    ∷ integers "ElementStartOffset" "DataArray_t" offsets 9
    ∷ integers "ElementConnectivity" "DataArray_t" nodes 9
    ∷ integers "Cells" "Elements_t" (23 ∷ 0 ∷ []) 3
    ∷ integers "ElementRange" "IndexRange_t" cells 13
    ∷ integers "ElementStartOffset" "DataArray_t" starts 13
    ∷ integers "ElementConnectivity" "DataArray_t" faces 13
    ∷ others

-- 001's faces of a tetrahedron
abbrev pub four_faces : List ℕ
four_faces = 1 ∷ 3 ∷ 2 ∷ 1 ∷ 2 ∷ 4 ∷ 2 ∷ 3 ∷ 4 ∷ 3 ∷ 1 ∷ 4 ∷ []

-- case (a)
abbrev pub tetra_plans : List Plan
tetra_plans =
    tetrahedron_plans [] (3 ∷ 3 ∷ []) (1 ∷ 4 ∷ []) (0 ∷ 3 ∷ 6 ∷ 9 ∷ 12 ∷ []) four_faces (5 ∷ 5 ∷ []) (0 ∷ 4 ∷ []) (1 ∷ 2 ∷ 3 ∷ 4 ∷ [])
