-- Of an accepted image: a child that is looked up conforms, since it is validated itself.
use Prim.Native.Nat.{ℕ, zero, suc, ◌+◌, ◌≤◌, ◌<◌}
use mathlib.Core.Path.{◌≡◌, refl, sym, ◌∙◌}
use mathlib.Core.Bool.{Bool, true, false, cond, ◌&&◌}
use mathlib.Core.List.{List}
use native.Mathlib.Omega.{arith}
use lib.Dec.{eqb, ltb}
use borrow.Author.Tests.{ltb-true, ltb-false, lt-ltb, eqb-true}
use Rattle.model.specs.Lists.{seek_from}
use Rattle.model.specs.Image.{Tree, tree_of, node_count, parent}
use Rattle.model.specs.Containment.{role, validated, child, is_child, or_missing, Root, UserDefinedData}
use Rattle.model.specs.Values.{sids_rules, conforming, type_lawful, value_lawful}
use Rattle.model.specs.Given.{Accepted}
use Rattle.model.proofs.Logic.{and_first, and_second}
use Rattle.model.proofs.Accepted.{sids_rule}
use Rattle.model.proofs.Conforming.{child-is}
use Rattle.model.proofs.Sections.{not_root}
use Rattle.model.proofs.Validated.{validated-child}

-- a search ends at the latest after its last number
pub seek_within : (p : ℕ → Bool) (k i : ℕ) → seek_from p k i ≤ i + k
unfolding seek_from
seek_within p zero i = omega arith
seek_within p (suc k) i = by_test (p i) (seek_within p k (suc i))
  where
    by_test : (t : Bool) → seek_from p k (suc i) ≤ suc i + k → cond t i (seek_from p k (suc i)) ≤ i + suc k
    by_test true h = omega arith
    by_test false h = omega arith

-- what a child is
pub child_parts : (t : Tree) (i r : ℕ) (n : List ℕ) (j : ℕ) → is_child t i r n j ≡ true → (parent t j ≡ i) × (role t j ≡ r)
unfolding is_child
child_parts t i r n j e =
    let h = and_first (eqb (parent t j) i && eqb (role t j) r) _ e in
    (eqb-true _ _ (and_first (eqb (parent t j) i) _ h), eqb-true _ _ (and_second (eqb (parent t j) i) _ h))

-- node i is validated and is no UserDefinedData_t
module _ (b : List ℕ) (a : Accepted b) (i : ℕ) (v : validated (tree_of b) i ≡ true) (u : eqb (role (tree_of b) i) UserDefinedData ≡ false) where
  child_lawful : (r : ℕ) (n : List ℕ) → 0 < r → eqb r Root ≡ false → child (tree_of b) i r n < node_count b
      → (type_lawful (tree_of b) (child (tree_of b) i r n) && value_lawful (tree_of b) (child (tree_of b) i r n)) ≡ true
  unfolding sids_rules tree_of
  child_lawful r n p q l =
      let j = child (tree_of b) i r n in
      let c = child_parts (tree_of b) i r n j (child-is (tree_of b) i r n l) in
      let k : ltb 0 (role (tree_of b) j) ≡ true = rw c.1 (lt-ltb 0 r p) in
      let w = validated-child b a.sound j i l (not_root (tree_of b) j r c.1 q) c.0 v u ∙ k in
      rw (sids_rule b a.image 24 j l w, sids_rule b a.image 25 j l w)

  pub child_conforms : (r : ℕ) (n : List ℕ) → 0 < r → eqb r Root ≡ false → conforming (tree_of b) i r n ≡ child (tree_of b) i r n
  unfolding conforming or_missing child tree_of
  child_conforms r n p q = by_place (ltb j (node_count b)) refl
    where
      j : ℕ
      j = child (tree_of b) i r n

      same : (c : Bool) → j ≡ node_count b → cond c j (node_count b) ≡ j
      same true e = refl
      same false e = sym e

      by_place : (c : Bool) → ltb j (node_count b) ≡ c → cond (type_lawful (tree_of b) j && value_lawful (tree_of b) j) j (node_count b) ≡ j
      by_place true e = rw (child_lawful r n p q (ltb-true j (node_count b) e))
      by_place false e =
          same (type_lawful (tree_of b) j && value_lawful (tree_of b) j)
          (let w = seek_within (is_child (tree_of b) i r n) (node_count b) 0 in
          let l = ltb-false j (node_count b) e in
          omega arith)
