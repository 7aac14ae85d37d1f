-- A zone's sizes as three rows of three numbers: a direction that the zone lacks is 0.
use Rattle.std.specs.Prelude.{ℕ, ◌+◌, Bool, cond, ◌&&◌, List, [], ◌∷◌, get_or, ltb, leb, eqb}
use Rattle.model.specs.Image.{Tree, parent}
use Rattle.model.specs.Values.{max_number, structured, index_dimension, vertex_size, cell_size, boundary_size, cell_centred, structured_sizes, unstructured_sizes}

-- f in direction d of n
abbrev pub direction : (ℕ → ℕ) → ℕ → ℕ → ℕ
direction f n d = cond (ltb d n) (f d) 0

abbrev pub directions : (ℕ → ℕ) → ℕ → List ℕ
directions f n = direction f n 0 ∷ direction f n 1 ∷ direction f n 2 ∷ []

-- VertexSize, CellSize, VertexSizeBoundary
abbrev pub zone_sizes : Tree → ℕ → List (List ℕ)
zone_sizes t z =
    directions (vertex_size t z) (index_dimension t z)
    ∷ directions (cell_size t z) (index_dimension t z)
    ∷ directions (boundary_size t z) (index_dimension t z)
    ∷ []

-- row k of sizes, in direction d
abbrev pub size_in : List (List ℕ) → ℕ → ℕ → ℕ
size_in sizes k d = get_or (get_or sizes k []) d 0

-- the sizes of one direction are permitted
abbrev pub structured_in : ℕ → ℕ → ℕ → Bool
structured_in v c w = leb 2 v && leb v max_number && eqb (c + 1) v && eqb w 0

abbrev pub unstructured_in : ℕ → ℕ → ℕ → Bool
unstructured_in v c w = leb 1 v && leb v max_number && leb c max_number && leb w v

abbrev pub permitted_in : Tree → ℕ → ℕ → Bool
permitted_in t z d = cond (structured t z) (structured_sizes t z d) (unstructured_sizes t z d)

-- VertexSize, or CellSize for CellCenter, of what stands under node p
abbrev pub inner_size : Tree → ℕ → ℕ → ℕ
inner_size t p d = cond (cell_centred t p) (cell_size t (parent t p) d) (vertex_size t (parent t p) d)
