-- What the functions here are given, in place of tests that were made before them.
use Rattle.std.specs.Prelude.{ℕ, ◌+◌, ◌*◌, ◌≤◌, ◌<◌, ◌≡◌, true, List, T}
use Rattle.model.specs.Image.{tree_of, node_count, node, parent, width}
use Rattle.model.specs.Containment.{role, found, Elements}
use Rattle.model.specs.Values.{flat, range_of, offsets_of, connectivity_of, size, max_number}
use Rattle.model.specs.Elements.{first_element, last_element}
use Rattle.words.specs.Width.{is_width}
use Rattle.rows.specs.declared.Row.{Row}
use Rattle.index.specs.Index.{kind}
use Rattle.types.specs.Given.{HasNumber}

-- node j stores n numbers of 4 or 8 bytes
pub record Stores (b : List ℕ) (j n : ℕ) : Type 0 where
  pub inside : j < node_count b
  pub wide : T (is_width (width (tree_of b) j))
  pub bytes : (node (tree_of b) j).data_size ≡ n * width (tree_of b) j

-- node j stores whole numbers in one dimension
pub record Indexed (b : List ℕ) (j : ℕ) : Type 0 where
  pub numbers : Stores b j (size (tree_of b) j)
  pub one_dimension : flat (tree_of b) j ≡ true

-- a row has the numbers of node j
pub record RowOf (b : List ℕ) (j : ℕ) (r : Row) : Type 0 where
  pub indexed : Indexed b j
  pub starts : r.at ≡ (tree_of b).area_at + (node (tree_of b) j).data_at
  pub wide : r.width ≡ width (tree_of b) j
  pub long : r.n ≡ size (tree_of b) j

-- the ElementRange of section s conforms
pub record Ranged (b : List ℕ) (s : ℕ) : Type 0 where
  pub range : Stores b (range_of (tree_of b) s) 2
  pub one : 1 ≤ first_element (tree_of b) s
  pub up : first_element (tree_of b) s ≤ last_element (tree_of b) s
  pub most : last_element (tree_of b) s ≤ max_number

-- section s meets rules 20 to 26, and its zone and base do
pub record SectionContext (b : List ℕ) (s : ℕ) : Type 0 where
  pub inside : s < node_count b
  pub elements : role (tree_of b) s ≡ Elements
  pub kind-is : kind (tree_of b) s ≡ Elements
  pub own : Stores b s 2
  pub below : parent (tree_of b) s < s
  pub zone : HasNumber b (parent (tree_of b) s) 0
  pub base : HasNumber b (parent (tree_of b) (parent (tree_of b) s)) 0
  pub ranged : Ranged b s
  pub connectivity : Indexed b (connectivity_of (tree_of b) s)
  pub offsets : found (tree_of b) (offsets_of (tree_of b) s) ≡ true → Indexed b (offsets_of (tree_of b) s)
