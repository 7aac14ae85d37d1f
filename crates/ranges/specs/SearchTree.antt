-- What is known of a search tree and of the places in it: they lie in the table. What stands there is not told.
use Rattle.std.specs.Prelude.{ℕ, ◌*◌, ◌<◌, ◌≤◌}
use Rattle.ranges.specs.declared.search_tree.SearchTree.{SearchTree}
use Rattle.ranges.specs.declared.search_tree.Places.{Places}

-- its places lie in a table of 2,048
pub record Built (t : SearchTree) : Type 0 where
  pub from : t.from ≤ 2048
  pub lowest : t.lowest ≤ 1024

-- place p is in the level that begins with place `first`
pub record PlaceIn (first p : ℕ) : Type 0 where
  pub least : first ≤ p
  pub most : p < 2 * first

-- four places of one level
pub record InLevel (first : ℕ) (p : Places) : Type 0 where
  pub a : PlaceIn first p.a
  pub b : PlaceIn first p.b
  pub c : PlaceIn first p.c
  pub d : PlaceIn first p.d
