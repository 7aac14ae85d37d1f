-- The parents of a face section of an accepted image stand where its entry says: 39 gives their type and their number.
use Prim.Native.Nat.{ℕ, suc, ◌+◌, ◌*◌, ◌≤◌, ◌<◌}
use mathlib.Core.Path.{◌≡◌, sym, ap, ◌∙◌}
use mathlib.Core.Logic.{inl, inr}
use mathlib.Core.Bool.{true, ◌&&◌}
use mathlib.Core.List.{List, [], ◌∷◌}
use native.Mathlib.Omega.{arith}
use native.Mathlib.Nat.{mul_comm, mul-le-mul_left, mul-suc}
use lib.Dec.{eqb}
use borrow.Author.Tests.{eqb-true, lt-ltb, ltb-true}
use Rattle.model.specs.Image.{tree_of, node_count, data_offset, node, dimensions, width, number, I4, I8}
use Rattle.model.specs.Records.{product}
use Rattle.model.specs.Containment.{found}
use Rattle.model.specs.Values.{typed, shaped}
use Rattle.model.specs.Elements.{element_count, parents_of, first_parent, second_parent, parents_lawful, parent_rules}
use Rattle.model.specs.Sections.{data_start, entry}
use Rattle.model.specs.Corner.{width_lawful, number_at}
use Rattle.model.specs.ParentLaws.{InPlace}
use Rattle.model.proofs.Logic.{and_first, and_second, or_cases, when, same-is}
use Rattle.model.proofs.Accepted.{table-passed, parent-rule}
use Rattle.model.proofs.Arrays.{data_size_lem, width_lawful_lem}
use Rattle.model.proofs.Bounds.{table-laid, node-placed}
use Rattle.model.proofs.InZone.{InZone, parts}
use Rattle.model.proofs.Reading.{number-at}

module _ {b : List ℕ} {z s : ℕ} (a : InZone b z s) (h : found (tree_of b) (parents_of (tree_of b) s) ≡ true) where
  abbrev j : ℕ
  j = parents_of (tree_of b) s

  abbrev w : ℕ
  w = width (tree_of b) j

  abbrev n : ℕ
  n = element_count (tree_of b) s

  there : j < node_count b
  unfolding found tree_of
  there = ltb-true _ _ h

  -- 39
  lawful : (typed (tree_of b) j (I4 ∷ I8 ∷ []) && shaped (tree_of b) j (n ∷ 2 ∷ [])) ≡ true
  unfolding parent_rules parents_lawful
  lawful = and_first (typed (tree_of b) j (I4 ∷ I8 ∷ []) && shaped (tree_of b) j (n ∷ 2 ∷ [])) _
      (when (found (tree_of b) j) (parents_lawful (tree_of b) s) (parent-rule b a.accepted s a.listed (parts a).is-validated (parts a).elements) h)

  sizes : dimensions (tree_of b) j ≡ (n ∷ 2 ∷ [])
  unfolding shaped
  sizes = same-is _ _ (and_second (typed (tree_of b) j (I4 ∷ I8 ∷ [])) _ lawful)

  bytes : (node (tree_of b) j).data_size ≡ w * (n * 2)
  unfolding product
  bytes = sym (data_size_lem b (table-passed b a.accepted) j there) ∙ ap (λ (l : List ℕ). product l * w) sizes ∙ mul_comm (n * 2) w

  start : data_start (tree_of b) j ≡ data_offset b + (node (tree_of b) j).data_at
  unfolding data_start found tree_of
  start = rw (lt-ltb j (node_count b) there)

  read : (k : ℕ) → k < n * 2 → number_at b (data_start (tree_of b) j) w k ≡ number (tree_of b) j k
  unfolding number_at
  read k l =
      let g : suc k ≤ n * 2 = omega arith in
      let m = mul-le-mul_left w g in
      let q = mul-suc w k in
      rw start (sym (number-at b j k (rw bytes (omega arith))))

  pub in_place : InPlace b s
  unfolding entry width_lawful first_parent second_parent
  in_place =
      let y = width_lawful_lem (tree_of b) j (and_first (typed (tree_of b) j (I4 ∷ I8 ∷ [])) _ lawful) in
      let p = node-placed b (table-passed b a.accepted) j there in
      record {
        wide = or_cases (eqb w 4) (eqb w 8) y (λ e. inl (eqb-true w 4 e)) (λ e. inr (eqb-true w 8 e));
        inside = rw (start, ← bytes) (omega (arith, p.data_in, (table-laid b (table-passed b a.accepted)).whole));
        first-is = λ k l. read k (omega arith);
        second_is = λ k l. read (n + k) (omega arith);
      }
