-- The arrays of parents of a zone's face sections, by the entries of the tables; and the cells of a section, by its start offsets.
use Rattle.std.specs.Prelude.{ℕ, suc, ◌+◌, ◌≤◌, ◌<◌, ◌≡◌, true, List, length, get_or}
use Rattle.model.specs.Image.{Tree, tree_of, node_count, dimensions}
use Rattle.model.specs.Elements.{first_element, face_section, parents_of}
use Rattle.model.specs.Corner.{number_at}
use Rattle.rows.specs.declared.Row.{Row}
use Rattle.face_places.specs.Ranges.{Ranges}
use Rattle.face_parents.specs.Parents.{Columns, ParentRow}
use Rattle.agreement.specs.declared.cells.Cell.{Cell}

-- an entry that begins with the first face of one of the face sections before node i has its ParentElements
pub record Arrays (t : Tree) (z i n : ℕ) (firsts arrays : List ℕ) : Type 0 where
  pub room : n ≤ length arrays
  pub each : (s j : ℕ) → s < i → face_section t z s ≡ true → j < n → get_or firsts j 0 ≡ first_element t s → get_or arrays j 0 ≡ parents_of t s

-- the tables hold the faces of a zone; the places beside them are not asked for
abbrev pub InTables : List ℕ → ℕ → List ℕ → List ℕ → ℕ → Type 0
InTables b z firsts reach n = (places : List ℕ) × Ranges (tree_of b) z (node_count b) firsts reach places n

-- node a, where it is one, stores two columns; a row has them
abbrev pub StoresColumns : List ℕ → ℕ → Type 0
StoresColumns b a = a < node_count b → Columns b a (get_or (dimensions (tree_of b) a) 0 0)

abbrev pub ArrayRow : List ℕ → ℕ → Row → Type 0
ArrayRow b a r = ParentRow b a (get_or (dimensions (tree_of b) a) 0 0) r

-- start offsets rise from 0 to n
pub record Filled (b : List ℕ) (offsets : Row) (n : ℕ) : Type 0 where
  pub two : 2 ≤ offsets.n
  pub first : number_at b offsets.at offsets.width 0 ≡ 0
  pub rise : (k : ℕ) → suc k < offsets.n → number_at b offsets.at offsets.width k < number_at b offsets.at offsets.width (suc k)
  pub last : (k : ℕ) → suc k ≡ offsets.n → number_at b offsets.at offsets.width k ≡ n

-- entry k lies in a cell, or is the one behind it
pub record AtMost (b : List ℕ) (offsets : Row) (k : ℕ) (c : Cell) : Type 0 where
  pub inside : c.place + 1 < offsets.n
  pub ends : c.end ≡ number_at b offsets.at offsets.width (c.place + 1)
  pub from : number_at b offsets.at offsets.width c.place ≤ k
  pub to : k ≤ c.end
