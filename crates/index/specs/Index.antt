-- The index of the tree: what each node is validated as, and each node's looked_up children, in one table that one pass over the nodes fills.
use Rattle.std.specs.Prelude.{ℕ, ◌+◌, ◌*◌, ◌/◌, ◌%◌, ◌≤◌, ◌<◌, ◌≡◌, ◌⊎◌, Bool, true, false, cond, ◌||◌, List, eqb, length, get_or, set}
use Rattle.model.specs.Image.{Tree, tree_of, node_count}
use Rattle.model.specs.Given.{Sound}
use Rattle.model.specs.Containment.{role, validated, is_child, child, UserDefinedData}
use Rattle.index.specs.Keys.{key_role, key_name}

-- the kind of a node: its role where it is validated, else 0
unfoldable pub kind : Tree → ℕ → ℕ
kind t j = cond (validated t j) (role t j) 0

-- the kind of a node, by its parent's and its own role
unfoldable pub kind_below : ℕ → ℕ → ℕ
kind_below above role = cond (eqb above 0 || eqb above UserDefinedData) 0 role

-- node j is the child of node p that its slot k is for; the first of them, the node count where there is none
unfoldable pub is_slot_child : Tree → ℕ → ℕ → ℕ → Bool
is_slot_child t p k j = is_child t p (key_role (kind t p) k) (key_name (kind t p) k) j

unfoldable pub slot_child : Tree → ℕ → ℕ → ℕ
slot_child t p k = child t p (key_role (kind t p) k) (key_name (kind t p) k)

-- four numbers a node: the node in each slot, 0 for none (node 0 is nobody's child); above the 12 bits of the first stands the kind
abbrev pub slot_at : List ℕ → ℕ → ℕ → ℕ
slot_at index p k = get_or index (4 * p + k) 0 % 4096

abbrev pub kind_at : List ℕ → ℕ → ℕ
kind_at index j = get_or index (4 * j + 0) 0 / 4096

-- node j put at a place that holds no node yet
abbrev pub put_at : List ℕ → ℕ → ℕ → List ℕ
put_at index at j = cond (eqb (get_or index at 0 % 4096) 0) (set index at (get_or index at 0 + j)) index

-- v is the first below n where the test holds; 0 where there is none
pub record First (p : ℕ → Bool) (n v : ℕ) : Type 0 where
  pub inside : 0 < v → v < n
  pub at : 0 < v → p v ≡ true
  pub before : (j : ℕ) → j < n → (0 < v → j < v) → p j ≡ false

-- the rows of the nodes before m, with the children among the nodes before n
pub record Rows (b index : List ℕ) (m n : ℕ) : Type 0 where
  pub long : 4 * node_count b ≤ length index
  pub kinds : (j : ℕ) → j < m → kind_at index j ≡ kind (tree_of b) j
  pub few : (j : ℕ) → j < m → kind_at index j < 16
  pub slots : (p k : ℕ) → p < m → k < 4 → First (is_slot_child (tree_of b) p k) n (slot_at index p k)

-- a row that is begun: the kind, and no child yet; all others are as they were
pub record RowBegun (index : List ℕ) (j kind : ℕ) (index' : List ℕ) : Type 0 where
  pub long : length index' ≡ length index
  pub first : get_or index' (4 * j + 0) 0 ≡ 4096 * kind
  pub empty : (k : ℕ) → 0 < k → k < 4 → get_or index' (4 * j + k) 0 ≡ 0
  pub others : (i : ℕ) → (i < 4 * j) ⊎ (4 * j + 4 ≤ i) → get_or index' i 0 ≡ get_or index i 0

-- the index of an image in which rules 1 to 18 hold
pub record Index (b index : List ℕ) : Type 0 where
  pub sound : Sound b
  pub rows : Rows b index (node_count b) (node_count b)
