-- The parents that a face section stores, as a row of numbers.
use Rattle.std.specs.Prelude.{ℕ, ◌*◌, ◌≤◌, ◌<◌, ◌≡◌, List, [], ◌∷◌}
use Rattle.model.specs.Image.{tree_of, node_count, dimensions, number}
use Rattle.model.specs.Corner.{number_at}
use Rattle.rows.specs.declared.Row.{Row}
use Rattle.rows.specs.Rows.{Numbers}
use Rattle.section_data.specs.Given.{Stores}

-- node a stores two columns of n numbers
pub record Columns (b : List ℕ) (a n : ℕ) : Type 0 where
  pub sizes : dimensions (tree_of b) a ≡ (n ∷ 2 ∷ [])
  pub stores : Stores b a (n * 2)

-- a row has the numbers of node a, two for each of n faces; none where there is no such node
pub record ParentRow (b : List ℕ) (a n : ℕ) (r : Row) : Type 0 where
  pub numbers : Numbers b r.at r.width r.n
  pub none : node_count b ≤ a → r.n ≡ 0
  pub long : a < node_count b → r.n ≡ n * 2
  pub stored : (k : ℕ) → k < r.n → number (tree_of b) a k ≡ number_at b r.at r.width k
