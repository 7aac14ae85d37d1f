-- Two trees that have the same nodes: what is said of a node by its record, and rules 7 to 14 at it, is the same in both; so are sums over siblings.
use Prim.Native.Nat.{ℕ, zero, suc, ◌≤◌, ◌<◌}
use mathlib.Core.Path.{◌≡◌, refl, ap, ◌∙◌}
use mathlib.Core.Bool.{Bool, true, false, not, ◌&&◌}
use native.Mathlib.Omega.{arith}
use lib.Dec.{eqb}
use borrow.Author.Tests.{eqb-false}
use Rattle.model.specs.Lists.{sum_before}
use Rattle.model.specs.Image.{Node, Tree, node, name, label, parent, data_type_of, width}
use Rattle.model.specs.Records.{parent_lawful, deeper_than, sibling, namesake, name_taken, link, rank_lawful}
use Rattle.model.specs.NameBytes.{pair_bytes, bytes_with_earlier}
use Rattle.model.proofs.Parents.{parent-lower}
use Rattle.model.proofs.Walks.{some_same, sum_same}

-- one node
module _ (t u : Tree) (i : ℕ) (e : node t i ≡ node u i) where
  pub same-parent : parent t i ≡ parent u i
  unfolding parent
  same-parent = ap (λ (x : Node). x.parent) e

  pub same_name : name t i ≡ name u i
  unfolding name
  same_name = ap (λ (x : Node). x.name) e

  pub same-label : label t i ≡ label u i
  unfolding label
  same-label = ap (λ (x : Node). x.label) e

  pub same-type : data_type_of t i ≡ data_type_of u i
  unfolding data_type_of
  same-type = rw e

  pub same_width : width t i ≡ width u i
  unfolding width
  same_width = rw same-type

  pub same-link : link t i ≡ link u i
  unfolding link
  same-link = rw e

  pub same_rank : rank_lawful t i ≡ rank_lawful u i
  unfolding rank_lawful
  same_rank = rw (same-type, e)

  pub same_lawful : parent_lawful t i ≡ parent_lawful u i
  unfolding parent_lawful
  same_lawful = rw same-parent

-- all before n
module _ (t u : Tree) (n : ℕ) (e : (j : ℕ) → j < n → node t j ≡ node u j) where
  pub same_taken : (i : ℕ) → i < n → name_taken t i ≡ name_taken u i
  unfolding name_taken namesake sibling
  same_taken i h = some_same (namesake t i) (namesake u i) i 0 λ j l m.
      let f = e j (omega arith) in
      rw (same-parent t u j f, same_name t u j f, same-parent t u i (e i h), same_name t u i (e i h))

  pub same_bytes_lem : sum_before (bytes_with_earlier t) n ≡ sum_before (bytes_with_earlier u) n
  unfolding bytes_with_earlier pair_bytes sibling
  same_bytes_lem = sum_same (bytes_with_earlier t) (bytes_with_earlier u) n λ i h.
      sum_same (pair_bytes t i) (pair_bytes u i) i λ j l.
      let f = e j (omega arith) in
      rw (same-parent t u j f, same_name t u j f, same-parent t u i (e i h), same_name t u i (e i h))

  pub same_deeper : (d i : ℕ) → i < n → ((j : ℕ) → j ≤ i → parent_lawful u j ≡ true) → deeper_than t d i ≡ deeper_than u d i
  unfolding deeper_than
  same_deeper zero i h l = refl
  same_deeper (suc d) i h l = by_test (eqb i 0) refl λ z.
      let p : parent u i < i = parent-lower u i (l i (omega arith)) z in
      same_deeper d (parent u i) (omega arith) (λ j m. l j (omega arith))
    where
      by_test : (b : Bool) → eqb i 0 ≡ b → ((i ≡ 0 → ⊥) → deeper_than t d (parent u i) ≡ deeper_than u d (parent u i))
          → (not b && deeper_than t d (parent t i)) ≡ (not b && deeper_than u d (parent u i))
      by_test true q f = refl
      by_test false q f = ap (deeper_than t d) (same-parent t u i (e i h)) ∙ f (eqb-false i 0 q)
