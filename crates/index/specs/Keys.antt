-- The looked_up children of a node: which child each of its four slots is for, by what the node is validated as.
use Rattle.std.specs.Prelude.{ℕ, ◌<◌, ◌≡◌, Bool, ◌&&◌, List, [], ◌∷◌, eqb, get_or}
use Rattle.model.specs.Lists.{Row, ◌has◌, row, seek_from}
use Rattle.model.specs.Bytes.{spells}
use Rattle.model.specs.Image.{Tree, name}
use Rattle.model.specs.Containment.{Zone, ZoneType, GridCoordinates, FlowSolution, Elements, IndexRange, Rind, GridLocation, DataArray, IndexArray, role}
use Rattle.labels.specs.Padded.{known_names}

-- the keys are known names, by their place, with a role each; no node has the role 16
unfoldable pub key_roles : List ℕ
key_roles = 16 ∷ ZoneType ∷ Rind ∷ GridLocation ∷ IndexRange ∷ DataArray ∷ DataArray ∷ IndexRange ∷ IndexArray ∷ DataArray ∷ []

-- the keys of a node's slots, by what it is validated as
unfoldable pub slot_keys : List (Row (List ℕ))
slot_keys =
    Zone has (1 ∷ [])
    ∷ GridCoordinates has (2 ∷ [])
    ∷ FlowSolution has (2 ∷ 3 ∷ 7 ∷ 8 ∷ [])
    ∷ Elements has (4 ∷ 5 ∷ 6 ∷ 9 ∷ [])
    ∷ []

-- the key of slot k; 10 where the slot has none
unfoldable pub key_at : ℕ → ℕ → ℕ
key_at above k = get_or (row above [] slot_keys) k 10

unfoldable pub key_role : ℕ → ℕ → ℕ
key_role above k = get_or key_roles (key_at above k) 16

unfoldable pub key_name : ℕ → ℕ → List ℕ
key_name above k = get_or known_names (key_at above k) []

-- node j is what slot k of a node is for
unfoldable pub is_key : Tree → ℕ → ℕ → ℕ → Bool
is_key t above k j = eqb (role t j) (key_role above k) && spells (name t j) (key_name above k)

-- the first slot for a child of a role
unfoldable pub has_role : ℕ → ℕ → ℕ → Bool
has_role above below k = eqb (key_role above k) below

unfoldable pub first_slot : ℕ → ℕ → ℕ
first_slot above below = seek_from (has_role above below) 4 0

-- r is the one slot that node j is for; 4 where it is for none
pub record SlotOf (t : Tree) (above j r : ℕ) : Type 0 where
  pub is : (k : ℕ) → k < 4 → is_key t above k j ≡ eqb k r
