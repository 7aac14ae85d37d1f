-- What a section's nodes store, where rules 20 to 26 hold, and how a row of the image's bytes has it.
use Prim.Native.Nat.{ℕ, ◌+◌, ◌≤◌, ◌<◌}
use mathlib.Core.Path.{◌≡◌, sym, ap, subst, ◌∙◌}
use mathlib.Core.Bool.{true, ◌&&◌}
use mathlib.Core.List.{List, [], ◌∷◌}
use native.Mathlib.Omega.{arith}
use native.Mathlib.Nat.{mul_comm, mul-one}
use lib.ListN.{length}
use lib.Dec.{T, leb}
use borrow.Author.Tests.{leb-true}
use Rattle.model.specs.Lists.{row}
use Rattle.model.specs.Bytes.{text, spells}
use Rattle.model.specs.Image.{Tree, tree_of, node_count, node, name, parent, width, number, data_offset, dimensions, I4, I8}
use Rattle.model.specs.Given.{Sound}
use Rattle.model.specs.Records.{product}
use Rattle.model.specs.Containment.{role, found, Elements, IndexRange, DataArray}
use Rattle.model.specs.Values.{typed, shaped, flat, size, type_lawful, value_lawful, array_type, section_array_type, element_array, conforming, range_of}
use Rattle.model.specs.Values.{range_shape, range_value, index_range_value}
use Rattle.model.specs.Values.{offsets_of, connectivity_of}
use Rattle.model.specs.Elements.{first_element, last_element}
use Rattle.model.specs.Corner.{number_at}
use Rattle.model.proofs.Logic.{and_first, and_second, or_left, or_right}
use Rattle.model.proofs.Bounds.{node-placed}
use Rattle.model.proofs.Reading.{number-at}
use Rattle.model.proofs.Conforming.{conforming-inside, conforming-type, conforming-value, conforming-role, conforming-parent, conforming-name}
use Rattle.words.specs.Width.{is_width}
use Rattle.types.specs.Given.{HasNumber}
use Rattle.types.proofs.StoredNumbers.{whole_wide, shaped-is, flat-is, bytes_are, scaled}
use Rattle.rows.specs.Rows.{Numbers}
use Rattle.section_data.specs.Given.{Stores, Indexed, Ranged}

-- where a node's numbers start
abbrev pub data_from_lem : List ℕ → ℕ → ℕ
data_from_lem b j = (tree_of b).area_at + (node (tree_of b) j).data_at

module _ {b : List ℕ} (s : Sound b) {j n : ℕ} (a : Stores b j n) where
  pub stores-has : (k : ℕ) → k < n → HasNumber b j k
  stores-has k h = record { inside = a.inside; wide = a.wide; room = rw a.bytes (scaled (width (tree_of b) j) k n h) }

  pub stores_row : Numbers b (data_from_lem b j) (width (tree_of b) j) n
  unfolding tree_of
  stores_row =
      let p = node-placed b s.table j a.inside in
      let l = s.laid in
      let e : data_offset b + (node (tree_of b) j).data_at + (node (tree_of b) j).data_size ≤ length b = omega arith in
      record { wide = a.wide; inside = rw (mul_comm (width (tree_of b) j) n, ← a.bytes) e }

  pub stores-number : (k : ℕ) → k < n → number (tree_of b) j k ≡ number_at b (data_from_lem b j) (width (tree_of b) j) k
  unfolding number_at tree_of
  stores-number k h = number-at b j k (rw a.bytes (scaled (width (tree_of b) j) k n h))

pub stores_by : {b : List ℕ} → Sound b → (j : ℕ) → j < node_count b → T (is_width (width (tree_of b) j)) → (sizes : List ℕ) → dimensions (tree_of b) j ≡ sizes
    → Stores b j (product sizes)
stores_by {b} s j h w sizes e = record { inside = h; wide = w; bytes = bytes_are b s j h sizes e }

stores-flat : {b : List ℕ} → Sound b → (j : ℕ) → j < node_count b → (typed (tree_of b) j (I4 ∷ I8 ∷ []) && flat (tree_of b) j) ≡ true → Indexed b j
unfolding product
stores-flat {b} s j h e =
    let t = tree_of b in
    let f = and_second (typed t j (I4 ∷ I8 ∷ [])) (flat t j) e in
    record {
      numbers = subst (λ (n : ℕ). Stores b j n) (mul-one (size t j))
          (stores_by s j h (whole_wide t j (and_first (typed t j (I4 ∷ I8 ∷ [])) _ e)) (size t j ∷ []) (flat-is t j f));
      one_dimension = f;
    }

pub stores_pair : {b : List ℕ} → Sound b → (j : ℕ) → j < node_count b → T (is_width (width (tree_of b) j)) → shaped (tree_of b) j (2 ∷ []) ≡ true → Stores b j 2
unfolding product
stores_pair {b} s j h w e = stores_by s j h w (2 ∷ []) (shaped-is (tree_of b) j (2 ∷ []) e)

-- rule 24 of an ElementRange, of a section, of an array under a section
module _ (t : Tree) (j : ℕ) where
  pub type-range : role t j ≡ IndexRange → role t (parent t j) ≡ Elements → type_lawful t j ≡ (typed t j (I4 ∷ I8 ∷ []) && shaped t j (2 ∷ []))
  unfolding type_lawful range_shape row
  type-range e p = rw (e, p)

  pub type-section : role t j ≡ Elements → type_lawful t j ≡ (typed t j (I4 ∷ []) && shaped t j (2 ∷ []))
  unfolding type_lawful row
  type-section e = rw e

  pub value-range : role t j ≡ IndexRange → role t (parent t j) ≡ Elements → value_lawful t j ≡ range_value t j
  unfolding value_lawful index_range_value row
  value-range e p = rw (e, p)

  pub type_array : role t j ≡ DataArray → role t (parent t j) ≡ Elements → element_array t j ≡ true → type_lawful t j ≡ (typed t j (I4 ∷ I8 ∷ []) && flat t j)
  unfolding type_lawful row array_type section_array_type
  type_array e p n = rw (e, p, n)

-- a conforming index array, and a conforming ElementRange
module _ {b : List ℕ} (s : Sound b) (i : ℕ) where
  index_stores : role (tree_of b) i ≡ Elements → (n : List ℕ) → ((j : ℕ) → spells (name (tree_of b) j) n ≡ true → element_array (tree_of b) j ≡ true)
      → found (tree_of b) (conforming (tree_of b) i DataArray n) ≡ true → Indexed b (conforming (tree_of b) i DataArray n)
  unfolding tree_of
  index_stores r n f h =
      let t = tree_of b in
      let j = conforming t i DataArray n in
      let e = type_array t j (conforming-role t i DataArray n h) (ap (role t) (conforming-parent t i DataArray n h) ∙ r)
      (f j (conforming-name t i DataArray n h)) in
      stores-flat s j (conforming-inside t i DataArray n h) (sym e ∙ conforming-type t i DataArray n h)

  pub connectivity-stores : role (tree_of b) i ≡ Elements → found (tree_of b) (connectivity_of (tree_of b) i) ≡ true → Indexed b (connectivity_of (tree_of b) i)
  unfolding connectivity_of element_array
  connectivity-stores r h = index_stores r (text "ElementConnectivity") (λ j e. or_left _ _ e) h

  pub offsets-stores : role (tree_of b) i ≡ Elements → found (tree_of b) (offsets_of (tree_of b) i) ≡ true → Indexed b (offsets_of (tree_of b) i)
  unfolding offsets_of element_array
  offsets-stores r h = index_stores r (text "ElementStartOffset") (λ j e. or_right (spells (name (tree_of b) j) (text "ElementConnectivity")) _ e) h

  pub range_ready : role (tree_of b) i ≡ Elements → found (tree_of b) (range_of (tree_of b) i) ≡ true → Ranged b i
  unfolding range_of range_value first_element last_element tree_of
  range_ready q h =
      let t = tree_of b in
      let n = text "ElementRange" in
      let j = conforming t i IndexRange n in
      let r = conforming-role t i IndexRange n h in
      let p = ap (role t) (conforming-parent t i IndexRange n h) ∙ q in
      let e = sym (type-range t j r p) ∙ conforming-type t i IndexRange n h in
      let v = sym (value-range t j r p) ∙ conforming-value t i IndexRange n h in
      let low = and_first (leb 1 (number t j 0) && leb (number t j 0) (number t j 1)) _ v in
      record {
        range = stores_pair s j (conforming-inside t i IndexRange n h) (whole_wide t j (and_first (typed t j (I4 ∷ I8 ∷ [])) _ e))
            (and_second (typed t j (I4 ∷ I8 ∷ [])) _ e);
        one = leb-true _ _ (and_first (leb 1 (number t j 0)) _ low);
        up = leb-true _ _ (and_second (leb 1 (number t j 0)) _ low);
        most = leb-true _ _ (and_second (leb 1 (number t j 0) && leb (number t j 0) (number t j 1)) _ v);
      }
