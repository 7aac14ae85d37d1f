-- What rule 7 says of a node's parent, and of the nodes before it.
use Prim.Native.Nat.{ℕ, ◌≤◌, ◌<◌}
use mathlib.Core.Path.{◌≡◌, subst}
use mathlib.Core.Bool.{true}
use mathlib.Core.List.{List}
use native.Mathlib.Omega.{arith}
use native.Mathlib.Decide.{ℕ_discrete}
use borrow.Author.Tests.{eqb-true, ltb-true, ne_eqb}
use Rattle.model.specs.Image.{Tree, tree_of, node_count, parent}
use Rattle.model.specs.Records.{parent_lawful, no_parent, record_check_at, record_rules}
use Rattle.model.specs.Rules.{passed}
use Rattle.model.specs.Given.{Sound}
use Rattle.model.proofs.Passed.{check_pass}
use Rattle.model.proofs.Accepted.{record_rule}

module _ (t : Tree) where
  -- a parent is a lower number, but for the root's
  pub parent-lower : (i : ℕ) → parent_lawful t i ≡ true → (i ≡ 0 → ⊥) → parent t i < i
  unfolding parent_lawful
  parent-lower i e n = ltb-true (parent t i) i (rw (ne_eqb i 0 n) at e)

  pub parent-none : parent_lawful t 0 ≡ true → parent t 0 ≡ no_parent
  unfolding parent_lawful
  parent-none e = eqb-true (parent t 0) no_parent e

  -- where the check has come to node i and rule 7 holds at it, rule 7 holds at each node up to it
  pub lawful_to : (i : ℕ) → ((j : ℕ) → j < i → record_check_at t j ≡ passed) → parent_lawful t i ≡ true → (j : ℕ) → j ≤ i → parent_lawful t j ≡ true
  unfolding record_check_at record_rules
  lawful_to i before e j l =
      elim (ℕ_discrete i j) [
        | yes q ↦ subst (λ (n : ℕ). parent_lawful t n ≡ true) q e
        | no n ↦ (check_pass j (record_rules t j) (before j (omega (arith, n)))).0
      ]

-- where rules 1 to 18 hold
pub lawful_at : (b : List ℕ) → Sound b → (i : ℕ) → i < node_count b → parent_lawful (tree_of b) i ≡ true
unfolding record_rules
lawful_at b s i h = record_rule b s.table 7 i h
