-- A section's index arrays: of I4 or I8 with one dimension, their numbers lie inside the image, and the numbers at their place are those that the node stores.
use Prim.Native.Nat.{ℕ, ◌+◌, ◌*◌, ◌≤◌, ◌<◌}
use mathlib.Core.Path.{◌≡◌, sym, ◌∙◌}
use mathlib.Core.Bool.{true, false, not, ◌&&◌, ◌||◌}
use mathlib.Core.List.{List, [], ◌∷◌}
use native.Mathlib.Omega.{arith}
use native.Mathlib.Nat.{mul_comm, mul-le-mul_left, le-mul_of_pos_right}
use lib.ListN.{length, get_or}
use lib.Dec.{eqb}
use borrow.Author.Tests.{eqb-true, lt-ltb, le-leb}
use Rattle.model.specs.Lists.{row, among}
use Rattle.model.specs.Rules.{passed}
use Rattle.model.specs.Image.{Tree, tree_of, node_count, data_offset, node, dimensions, data_type_of, width, widths, number, I4, I8}
use Rattle.model.specs.Records.{table_check, record_rules, product, data_size_lawful}
use Rattle.model.specs.Containment.{role, Elements, DataArray, found}
use Rattle.model.specs.Values.{typed, flat, size, type_lawful, array_type, section_array_type, element_array, conforming}
use Rattle.model.specs.Sections.{data_start}
use Rattle.model.specs.Corner.{width_lawful, inside, number_at}
use Rattle.model.proofs.Logic.{untrue, and_second, and_both, or_cases}
use Rattle.model.proofs.Accepted.{record_rule}
use Rattle.model.proofs.Bounds.{table-laid, node-placed}
use Rattle.model.proofs.Conforming.{conforming-type, conforming-parent, conforming-role}
use Rattle.model.proofs.Reading.{number-at}

-- I4 and I8 are 4 and 8 bytes wide
integer_width : (y : ℕ) → among y (I4 ∷ I8 ∷ []) ≡ true → width_lawful (get_or widths y 0) ≡ true
unfolding among widths width_lawful
integer_width y e =
    or_cases (eqb y 4) (eqb y 7 || false) e (λ h. rw (eqb-true y 4 h))
    (λ h. or_cases (eqb y 7) false h (λ g. rw (eqb-true y 7 g)) (λ g. untrue g))

pub width_lawful_lem : (t : Tree) (i : ℕ) → typed t i (I4 ∷ I8 ∷ []) ≡ true → width_lawful (width t i) ≡ true
unfolding typed width
width_lawful_lem t i e = integer_width (data_type_of t i) e

one_dimension : (ds : List ℕ) → length ds ≡ 1 → product ds ≡ get_or ds 0 0
unfolding product
one_dimension [] e = absurd (omega arith)
one_dimension (d ∷ []) e = omega arith
one_dimension (d ∷ c ∷ ds) e = absurd (omega arith)

-- a node that stores numbers of I4 or I8 in one dimension
pub record Indices (b : List ℕ) (j : ℕ) : Type 0 where
  pub inside-table : j < node_count b
  pub wide : width_lawful (width (tree_of b) j) ≡ true
  pub fill : width (tree_of b) j * size (tree_of b) j ≡ (node (tree_of b) j).data_size

module _ (b : List ℕ) (yes : table_check b ≡ passed) where
  -- 16
  pub data_size_lem : (j : ℕ) → j < node_count b → product (dimensions (tree_of b) j) * width (tree_of b) j ≡ (node (tree_of b) j).data_size
  unfolding record_rules data_size_lawful
  data_size_lem j l = eqb-true _ _ (and_second (not (among 0 (dimensions (tree_of b) j))) _ (record_rule b yes 16 j l))

  pub indices : (j : ℕ) → j < node_count b → typed (tree_of b) j (I4 ∷ I8 ∷ []) ≡ true → flat (tree_of b) j ≡ true → Indices b j
  unfolding flat size
  indices j l y f =
      let p = one_dimension (dimensions (tree_of b) j) (eqb-true _ 1 f) in
      record {
        inside-table = l;
        wide = width_lawful_lem (tree_of b) j y;
        fill = rw (← p) (mul_comm (width (tree_of b) j) (product (dimensions (tree_of b) j)) ∙ data_size_lem j l);
      }

  module _ (j : ℕ) (a : Indices b j) where
    start_is : data_start (tree_of b) j ≡ data_offset b + (node (tree_of b) j).data_at
    unfolding data_start found tree_of
    start_is = rw (lt-ltb j (node_count b) a.inside-table)

    -- n numbers lie inside the image
    pub indices_inside : (n : ℕ) → n ≤ size (tree_of b) j → inside b (data_start (tree_of b) j) (width (tree_of b) j) n ≡ true
    unfolding inside
    indices_inside n h =
        let l = table-laid b yes in
        let p = node-placed b yes j a.inside-table in
        let m = mul-le-mul_left (width (tree_of b) j) h in
        let fits : data_start (tree_of b) j + width (tree_of b) j * n ≤ length b = omega (arith, l.whole, p.data_in, a.fill, start_is) in
        and_both (width_lawful (width (tree_of b) j)) _ a.wide (le-leb _ _ fits)

    -- they are fewer than the image has bytes
    pub indices_few : size (tree_of b) j ≤ 16777216
    unfolding width_lawful
    indices_few =
        or_cases (eqb (width (tree_of b) j) 4) (eqb (width (tree_of b) j) 8) a.wide
        (λ e. by_width 4 (omega arith) (eqb-true (width (tree_of b) j) 4 e))
        (λ e. by_width 8 (omega arith) (eqb-true (width (tree_of b) j) 8 e))
      where
        by_width : (w : ℕ) → 1 ≤ w → width (tree_of b) j ≡ w → size (tree_of b) j ≤ 16777216
        by_width w h e =
            let l = table-laid b yes in
            let p = node-placed b yes j a.inside-table in
            let f : w * size (tree_of b) j ≡ (node (tree_of b) j).data_size = rw e at a.fill in
            omega (arith, l.whole, l.short, p.data_in, f, le-mul_of_pos_right (size (tree_of b) j) h, mul_comm w (size (tree_of b) j))

    -- number k at the array's place is the one that the node stores
    pub indices_at : (k : ℕ) → k < size (tree_of b) j → number_at b (data_start (tree_of b) j) (width (tree_of b) j) k ≡ number (tree_of b) j k
    unfolding number_at
    indices_at k h =
        let m = mul-le-mul_left (width (tree_of b) j) h in
        rw start_is (sym (number-at b j k (omega (arith, a.fill))))

-- ElementConnectivity and ElementStartOffset are such arrays
module _ (t : Tree) (s : ℕ) (e : role t s ≡ Elements) (n : List ℕ) (h : found t (conforming t s DataArray n) ≡ true) where
  section_array : section_array_type t (conforming t s DataArray n) ≡ true
  unfolding type_lawful array_type row
  section_array =
      rw (conforming-parent t s DataArray n h, e) at (rw (conforming-role t s DataArray n h) at (conforming-type t s DataArray n h))

  pub element_array_lem : element_array t (conforming t s DataArray n) ≡ true
      → (typed t (conforming t s DataArray n) (I4 ∷ I8 ∷ []) && flat t (conforming t s DataArray n)) ≡ true
  unfolding section_array_type
  element_array_lem i = rw i at section_array
