-- A node's children have higher numbers (rule 7): no node up to it is one, so that a search for them may start after it.
use Prim.Native.Nat.{ℕ, zero, suc, ◌+◌, ◌≤◌, ◌<◌}
use mathlib.Core.Path.{◌≡◌}
use mathlib.Core.Bool.{false}
use mathlib.Core.List.{List}
use native.Mathlib.Omega.{arith}
use lib.Dec.{eqb}
use borrow.Author.Tests.{ne_eqb}
use Rattle.model.specs.Image.{tree_of, node_count, parent}
use Rattle.model.specs.Containment.{is_child, child}
use Rattle.model.specs.Given.{Sound}
use Rattle.model.proofs.Parents.{parent-lower, parent-none, lawful_at}
use Rattle.model.proofs.Loops.{SeekLeft, seek_start}

module _ (b : List ℕ) (s : Sound b) where
  pub no_child : (i : ℕ) → i < node_count b → (j : ℕ) → j ≤ i → eqb (parent (tree_of b) j) i ≡ false
  no_child i h zero l =
      let few = s.laid.few in
      let q = parent-none (tree_of b) (lawful_at b s 0 (omega arith)) in
      ne_eqb (parent (tree_of b) 0) i (λ (z : parent (tree_of b) 0 ≡ i). absurd (omega arith))
  no_child i h (suc j) l =
      let q : parent (tree_of b) (suc j) < suc j =
      parent-lower (tree_of b) (suc j) (lawful_at b s (suc j) (omega arith)) (λ (z : suc j ≡ 0). absurd (omega arith)) in
      ne_eqb (parent (tree_of b) (suc j)) i (λ (z : parent (tree_of b) (suc j) ≡ i). absurd (omega arith))

  -- the search for a child
  pub child_start : (i r : ℕ) (n : List ℕ) → i < node_count b → SeekLeft (is_child (tree_of b) i r n) (node_count b) (i + 1) (child (tree_of b) i r n)
  unfolding child is_child tree_of
  child_start i r n h = seek_start (is_child (tree_of b) i r n) (node_count b) (i + 1) (omega arith) (λ j l. rw (no_child i h j (omega arith)))
