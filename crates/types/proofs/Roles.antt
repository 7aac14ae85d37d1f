-- What rules 24 and 25 ask of a node, by what it is validated as.
use Prim.Native.Nat.{ℕ, ◌*◌, ◌≤◌, ◌<◌}
use mathlib.Core.Path.{◌≡◌}
use mathlib.Core.Bool.{true, false, ◌&&◌}
use mathlib.Core.List.{List, [], ◌∷◌}
use native.Mathlib.Omega.{arith}
use lib.Dec.{eqb, leb}
use borrow.Author.Tests.{leb-true}
use Rattle.model.specs.Lists.{row}
use Rattle.model.specs.Image.{Tree, tree_of, node_count, parent, dimensions, number, I4, I8}
use Rattle.model.specs.Given.{Sound}
use Rattle.model.specs.Containment.{role, Root, Base, Elements, IndexRange, Rind}
use Rattle.model.specs.Values.{typed, shaped, flat, type_lawful, value_lawful, base_value, range_shape, index_dimension, cell_dimension, zone_above}
use Rattle.model.proofs.Parents.{parent-lower, lawful_at}
use Rattle.model.proofs.Sections.{not_root}
use Rattle.model.proofs.Above.{validated-above}
use Rattle.model.proofs.Logic.{and_first, and_second}
use Rattle.types.specs.Given.{HasNumber, ZoneInBase, HeldContext, NodeContext}
use Rattle.types.proofs.StoredNumbers.{whole_four, whole_wide, shaped-is, has_pair, has_less}

module _ (t : Tree) (i : ℕ) where
  pub base-type : role t i ≡ Base → type_lawful t i ≡ true → (typed t i (I4 ∷ []) && shaped t i (2 ∷ [])) ≡ true
  unfolding type_lawful row
  base-type e h = rw e at h

  pub base-value : role t i ≡ Base → value_lawful t i ≡ true → (leb 1 (number t i 0) && leb (number t i 0) (number t i 1) && leb (number t i 1) 3) ≡ true
  unfolding value_lawful row base_value
  base-value e h = rw e at h

  pub elements-type : role t i ≡ Elements → type_lawful t i ≡ true → (typed t i (I4 ∷ []) && shaped t i (2 ∷ [])) ≡ true
  unfolding type_lawful row
  elements-type e h = rw e at h

  pub range-type : role t i ≡ IndexRange → role t (parent t i) ≡ Elements → type_lawful t i ≡ true → (typed t i (I4 ∷ I8 ∷ []) && shaped t i (2 ∷ [])) ≡ true
  unfolding type_lawful range_shape row
  range-type e f h = rw (e, f) at h

  pub rind-type : role t i ≡ Rind → type_lawful t i ≡ true → (typed t i (I4 ∷ []) && shaped t i (2 * index_dimension t (zone_above t i) ∷ [])) ≡ true
  unfolding type_lawful row
  rind-type e h = rw e at h

-- a pair of numbers can be read
module _ (b : List ℕ) (s : Sound b) (i : ℕ) (h : i < node_count b) where
  pair_has : (typed (tree_of b) i (I4 ∷ []) && shaped (tree_of b) i (2 ∷ [])) ≡ true → HasNumber b i 1
  pair_has e =
      has_pair b s i h (whole_four (tree_of b) i (and_first (typed (tree_of b) i (I4 ∷ [])) _ e)) (and_second (typed (tree_of b) i (I4 ∷ [])) _ e)

  pub base-has : role (tree_of b) i ≡ Base → type_lawful (tree_of b) i ≡ true → HasNumber b i 1
  base-has r e = pair_has (base-type (tree_of b) i r e)

  pub elements-has : role (tree_of b) i ≡ Elements → type_lawful (tree_of b) i ≡ true → HasNumber b i 1
  elements-has r e = pair_has (elements-type (tree_of b) i r e)

  pub range-has : role (tree_of b) i ≡ IndexRange → role (tree_of b) (parent (tree_of b) i) ≡ Elements → type_lawful (tree_of b) i ≡ true → HasNumber b i 1
  range-has r f e =
      let g = range-type (tree_of b) i r f e in
      has_pair b s i h (whole_wide (tree_of b) i (and_first (typed (tree_of b) i (I4 ∷ I8 ∷ [])) _ g)) (and_second (typed (tree_of b) i (I4 ∷ I8 ∷ [])) _ g)

-- a Rind_t is I4 with one dimension
module _ (t : Tree) (i : ℕ) (r : role t i ≡ Rind) (e : type_lawful t i ≡ true) where
  pub rind_four : typed t i (I4 ∷ []) ≡ true
  rind_four = and_first (typed t i (I4 ∷ [])) _ (rind-type t i r e)

  pub rind-dimensions : dimensions t i ≡ 2 * index_dimension t (zone_above t i) ∷ []
  rind-dimensions = shaped-is t i _ (and_second (typed t i (I4 ∷ [])) _ (rind-type t i r e))

  pub rind-flat : flat t i ≡ true
  unfolding flat
  rind-flat = rw rind-dimensions

module _ (b : List ℕ) (s : Sound b) (z : ℕ) (g : ZoneInBase b z) where
  pub based-has : HasNumber b (parent (tree_of b) z) 0
  based-has =
      has_less b (parent (tree_of b) z) 1 0 (base-has b s (parent (tree_of b) z) g.above g.base g.type) (omega arith)

  -- CellDimension is 1 to 3
  pub cell_dimension_lem : (1 ≤ cell_dimension (tree_of b) (parent (tree_of b) z)) × (cell_dimension (tree_of b) (parent (tree_of b) z) ≤ 3)
  unfolding cell_dimension
  cell_dimension_lem =
      let n = number (tree_of b) (parent (tree_of b) z) 0 in
      let m = number (tree_of b) (parent (tree_of b) z) 1 in
      let h = base-value (tree_of b) (parent (tree_of b) z) g.base g.value in
      let l = leb-true 1 n (and_first (leb 1 n) (leb n m) (and_first (leb 1 n && leb n m) _ h)) in
      let k = leb-true n m (and_second (leb 1 n) (leb n m) (and_first (leb 1 n && leb n m) _ h)) in
      let j = leb-true m 3 (and_second (leb 1 n && leb n m) (leb m 3) h) in
      (l, omega arith)

-- a node that is validated as anything but the root has a parent
pub held-inside : (b : List ℕ) → Sound b → (i : ℕ) → i < node_count b → (r : ℕ) → role (tree_of b) i ≡ r → eqb r Root ≡ false → parent (tree_of b) i < node_count b
held-inside b s i h r e n =
    let l = parent-lower (tree_of b) i (lawful_at b s i h) (not_root (tree_of b) i r e n) in
    omega arith

-- what such a node stands under
pub held_context : (b : List ℕ) → Sound b → (i : ℕ) → NodeContext b i → (r : ℕ) → role (tree_of b) i ≡ r → eqb r Root ≡ false → HeldContext b i
held_context b s i c r e n =
    record {
      above = held-inside b s i c.inside r e n;
      above-validated = validated-above b s i c.inside (not_root (tree_of b) i r e n) c.is-validated;
      flow = c.flow (rw e n);
    }
