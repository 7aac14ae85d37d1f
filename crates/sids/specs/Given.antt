-- What the functions here are given, in place of tests that were made before them.
use Rattle.std.specs.Prelude.{ℕ, ◌<◌, ◌≡◌, ◌⊎◌, true, List}
use Rattle.model.specs.Image.{tree_of, node_count, parent}
use Rattle.model.specs.Containment.{role, Zone, GridCoordinates, FlowSolution}
use Rattle.model.specs.Values.{type_lawful, value_lawful}
use Rattle.index.specs.Index.{kind}
use Rattle.types.specs.Given.{ZoneInBase}

-- a Zone_t that meets 24, under a base that meets 24 and 25: its sizes can be read
pub record TypedZone (b : List ℕ) (z : ℕ) : Type 0 where
  pub based : ZoneInBase b z
  pub zone : role (tree_of b) z ≡ Zone
  pub type : type_lawful (tree_of b) z ≡ true

-- node p under a zone that meets 24 and 25: DataSize below p is known
pub record UnderZone (b : List ℕ) (p : ℕ) : Type 0 where
  pub inside : p < node_count b
  pub zone : TypedZone b (parent (tree_of b) p)
  pub value : value_lawful (tree_of b) (parent (tree_of b) p) ≡ true

-- a GridCoordinates_t or FlowSolution_t under such a zone: its arrays have the sizes of DataSize
pub record Sized (b : List ℕ) (p : ℕ) : Type 0 where
  pub held : UnderZone b p
  pub kind-is : (kind (tree_of b) p ≡ GridCoordinates) ⊎ (kind (tree_of b) p ≡ FlowSolution)
