-- What inner functions are given, in place of tests that were made before them.
use Rattle.std.specs.Prelude.{ℕ, ◌<◌, ◌≡◌, List}
use Rattle.model.specs.Rules.{passed}
use Rattle.model.specs.Image.{tree_of, node_count}
use Rattle.model.specs.Records.{table_check, record_check_at}
use Rattle.model.specs.Bounds.{Laid}
use Rattle.model.specs.Validation.{image_check, node_check_at}

-- the check of the records has come to node i: rules 1 to 6 hold, and 7 to 17 at each node before it
pub record RecordsTo (b : List ℕ) (i : ℕ) : Type 0 where
  pub laid : Laid b
  pub inside : i < node_count b
  pub before : (j : ℕ) → j < i → record_check_at (tree_of b) j ≡ passed

-- rules 1 to 18 hold
pub record Sound (b : List ℕ) : Type 0 where
  pub laid : Laid b
  pub table : table_check b ≡ passed

-- validation has come to node i: rules 1 to 18 hold, and the others at each node before it
pub record NodesTo (b : List ℕ) (i : ℕ) : Type 0 where
  pub sound : Sound b
  pub inside : i < node_count b
  pub before : (j : ℕ) → j < i → node_check_at (tree_of b) j ≡ passed

-- the image is accepted
pub record Accepted (b : List ℕ) : Type 0 where
  pub sound : Sound b
  pub image : image_check b ≡ passed
