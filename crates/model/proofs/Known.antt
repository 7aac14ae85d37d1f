-- Rule 40 of the calls that ask only for rules 1 to 18: the node is none, or it is one and the rest decides.
use Prim.Native.Nat.{ℕ, ◌≤◌, ◌<◌}
use mathlib.Core.Path.{◌≡◌, refl, ◌∙◌}
use mathlib.Core.List.{List, ◌∷◌}
use lib.Dec.{ltb}
use borrow.Author.Tests.{le-ltb, lt-ltb}
use Rattle.model.specs.Rules.{Rule, ◌unless◌, rejection, rejected, passed, check, ◌then◌}
use Rattle.model.specs.Image.{tree_of, node_count}
use Rattle.model.specs.Records.{table_check}
use Rattle.model.proofs.Passed.{then-on}
use Rattle.model.proofs.Staging.{kept, broken}

module _ (b : List ℕ) (sound : table_check b ≡ passed) (i : ℕ) (rest : List Rule) where
  counted : (tree_of b).count ≡ node_count b
  unfolding tree_of
  counted = refl

  pub no_node : node_count b ≤ i → (table_check b then check 0 (40 unless ltb i (tree_of b).count ∷ rest)) ≡ rejected (rejection 40 0)
  no_node h = then-on _ sound ∙ broken 0 40 rest (rw counted (le-ltb i (node_count b) h))

  pub a-node : i < node_count b → (table_check b then check 0 (40 unless ltb i (tree_of b).count ∷ rest)) ≡ check 0 rest
  a-node h = then-on _ sound ∙ kept 0 40 rest (rw counted (lt-ltb i (node_count b) h))
