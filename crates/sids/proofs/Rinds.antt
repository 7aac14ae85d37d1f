-- The numbers of a conforming Rind: they can be read, and are at most 2,147,483,647.
use Prim.Native.Nat.{ℕ, ◌*◌, ◌≤◌, ◌<◌}
use mathlib.Core.Path.{◌≡◌, ap, ◌∙◌}
use mathlib.Core.Bool.{true}
use mathlib.Core.List.{List, [], ◌∷◌}
use native.Mathlib.Omega.{arith}
use borrow.Author.Tests.{leb-true, lt-ltb}
use Rattle.model.specs.Lists.{row}
use Rattle.model.specs.Bytes.{text}
use Rattle.model.specs.Image.{Tree, tree_of, node_count, parent, dimensions, number}
use Rattle.model.specs.Given.{Sound}
use Rattle.model.specs.Records.{product}
use Rattle.model.specs.Containment.{role, found, Rind}
use Rattle.model.specs.Values.{value_lawful, conforming, index_dimension, zone_above, rind_value, not_negative, size, rind_number}
use Rattle.model.proofs.Walks.{every_at}
use Rattle.model.proofs.Conforming.{conforming-type, conforming-value, conforming-parent, conforming-role}
use Rattle.types.specs.Given.{HasNumber}
use Rattle.types.proofs.StoredNumbers.{whole_four, has_by}
use Rattle.types.proofs.Roles.{rind_four, rind-dimensions}

module _ (b : List ℕ) (s : Sound b) (p : ℕ) (h : conforming (tree_of b) p Rind (text "Rind") < node_count b) where
  is_found : found (tree_of b) (conforming (tree_of b) p Rind (text "Rind")) ≡ true
  unfolding found tree_of
  is_found = lt-ltb _ _ h

  pub rind-two : dimensions (tree_of b) (conforming (tree_of b) p Rind (text "Rind")) ≡ 2 * index_dimension (tree_of b) (parent (tree_of b) p) ∷ []
  unfolding zone_above
  rind-two =
      let t = tree_of b in
      rind-dimensions t (conforming t p Rind (text "Rind")) (conforming-role t p Rind (text "Rind") is_found) (conforming-type t p Rind (text "Rind") is_found)
      ∙ ap (λ (q : ℕ). 2 * index_dimension t (parent t q) ∷ []) (conforming-parent t p Rind (text "Rind") is_found)

  module _ (k : ℕ) (l : k < 2 * index_dimension (tree_of b) (parent (tree_of b) p)) where
    pub rind-has : HasNumber b (conforming (tree_of b) p Rind (text "Rind")) k
    unfolding product
    rind-has =
        let t = tree_of b in
        let j = conforming t p Rind (text "Rind") in
        has_by b s j h (whole_four t j (rind_four t j (conforming-role t p Rind (text "Rind") is_found) (conforming-type t p Rind (text "Rind") is_found)))
        (2 * index_dimension t (parent t p) ∷ []) rind-two k (omega arith)

    permitted : (t : Tree) (j m : ℕ) → role t j ≡ Rind → value_lawful t j ≡ true → dimensions t j ≡ m ∷ [] → k < m → number t j k ≤ 2147483647
    unfolding value_lawful row rind_value size not_negative
    permitted t j m r v e n =
        leb-true (number t j k) 2147483647 (every_at (not_negative t j) m 0 k (rw (r, e) at v) (omega arith) (omega arith))

    pub rind-small : rind_number (tree_of b) p k ≤ 2147483647
    unfolding rind_number
    rind-small =
        let t = tree_of b in
        permitted t (conforming t p Rind (text "Rind")) (2 * index_dimension t (parent t p)) (conforming-role t p Rind (text "Rind") is_found)
        (conforming-value t p Rind (text "Rind") is_found) rind-two l
