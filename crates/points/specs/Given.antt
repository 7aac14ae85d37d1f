-- What the functions here are given, in place of tests that were made before them.
use Rattle.std.specs.Prelude.{ℕ, ◌<◌, ◌≡◌, true, List}
use Rattle.model.specs.Image.{tree_of, node_count, parent}
use Rattle.model.specs.Containment.{role, FlowSolution, IndexRange}
use Rattle.model.specs.Values.{type_lawful, zone_above}
use Rattle.types.specs.Given.{ZoneInBase}

-- a PointRange that meets 24, in a zone under a CGNSBase_t that meets 24 and 25: its begins and ends can be read
pub record TypedRange (b : List ℕ) (i : ℕ) : Type 0 where
  pub inside : i < node_count b
  pub above : parent (tree_of b) i < node_count b
  pub based : ZoneInBase b (zone_above (tree_of b) i)
  pub flow : role (tree_of b) (parent (tree_of b) i) ≡ FlowSolution
  pub range : role (tree_of b) i ≡ IndexRange
  pub type : type_lawful (tree_of b) i ≡ true
