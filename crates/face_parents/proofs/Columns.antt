-- The parents that a face section of an accepted image stores: rule 39 says that they are two columns of whole numbers, one number a face in each.
use Prim.Native.Nat.{ℕ, zero, suc, ◌+◌, ◌*◌, ◌≤◌, ◌<◌}
use mathlib.Core.Path.{◌≡◌, refl, sym, ap, ◌∙◌}
use mathlib.Core.Bool.{Bool, true, false, cond, ◌&&◌}
use mathlib.Core.List.{List, [], ◌∷◌}
use native.Mathlib.Omega.{arith}
use native.Mathlib.Nat.{suc-mul}
use lib.Dec.{T, eqb, ltb}
use lib.ListN.{length, get_or}
use borrow.Author.Tests.{ltb-true}
use Rattle.std.proofs.Common.{Option, Some, None}
use Rattle.std.specs.Option.{unwrap_or}
use Rattle.model.specs.Bytes.{text}
use Rattle.model.specs.Found.{if_below}
use Rattle.model.proofs.Found.{the_none}
use Rattle.model.proofs.LookedUp.{seek_within}
use Rattle.types.proofs.Missing.{there}
use Rattle.model.specs.Image.{tree_of, node_count, word_count, node, dimensions, width, I4, I8}
use Rattle.model.specs.Given.{Sound, Accepted}
use Rattle.model.specs.Records.{product}
use Rattle.model.specs.Containment.{section_of, found, child, is_child, or_missing, DataArray}
use Rattle.model.specs.Values.{typed, shaped}
use Rattle.model.specs.Elements.{NGON, element_type_of, element_count, parents_of, parents_lawful, parent_rules}
use Rattle.model.specs.ParentElements.{has_parents}
use Rattle.model.proofs.Logic.{and_first, and_second, when}
use Rattle.model.proofs.Accepted.{parent-rule}
use Rattle.model.proofs.Bounds.{node-placed}
use Rattle.model.proofs.Reading.{rank_is}
use Rattle.model.proofs.Conforming.{section-is}
use Rattle.words.specs.Width.{is_width}
use Rattle.types.proofs.StoredNumbers.{whole_wide, shaped-is}
use Rattle.section_data.proofs.Stored.{data_from_lem, stores_by, stores_row, stores-number}
use Rattle.face_places.proofs.Accepted.{face-section-is}
use Rattle.face_parents.specs.Parents.{Columns, ParentRow}

-- the node that a look-up gave is there
pub found_by : (b : List ℕ) {j k n : ℕ} → j ≡ k → n ≡ node_count b → ltb j n ≡ found (tree_of b) k
unfolding found tree_of
found_by b e f = rw (e, f)

-- what a look-up gave, as the model's number
pub parents_most : (b : List ℕ) (s : ℕ) → parents_of (tree_of b) s ≤ node_count b
unfolding parents_of or_missing child tree_of
parents_most b s = let t = tree_of b in by_test (eqb (element_type_of t s) NGON) (omega (arith, seek_within (is_child t s DataArray (text "ParentElements")) t.count 0))
  where
    by_test : {j : ℕ} (c : Bool) → j ≤ node_count b → cond c j (node_count b) ≤ node_count b
    by_test true h = h
    by_test false h = omega arith

pub looked_up : (b : List ℕ) (s : ℕ) (o : Option ℕ) → o ≡ if_below (node_count b) (parents_of (tree_of b) s) → unwrap_or o (node_count b) ≡ parents_of (tree_of b) s
looked_up b s None e = omega (arith, the_none (sym e), parents_most b s)
looked_up b s (Some j) e = (there e).0

module _ {b : List ℕ} (a : Accepted b) (z s : ℕ) (h : s < node_count b) where
  -- a section of type 22 with the array
  pub has_parents_is : has_parents (tree_of b) z s
      ≡ ((section_of (tree_of b) z s && eqb (element_type_of (tree_of b) s) NGON) && found (tree_of b) (parents_of (tree_of b) s))
  unfolding has_parents
  has_parents_is = ap (λ (x : Bool). x && found (tree_of b) (parents_of (tree_of b) s)) (face-section-is a z s h)

  -- 39: it is I4 or I8 and has the dimensions [n, 2]
  pub columns : has_parents (tree_of b) z s ≡ true → Columns b (parents_of (tree_of b) s) (element_count (tree_of b) s)
  unfolding parent_rules parents_lawful found tree_of product
  columns e =
      let t = tree_of b in
      let j = parents_of t s in
      let n = element_count t s in
      let g = sym has_parents_is ∙ e in
      let f = and_second (section_of t z s && eqb (element_type_of t s) NGON) (found t j) g in
      let p = section-is t z s (and_first (section_of t z s) _ (and_first (section_of t z s && eqb (element_type_of t s) NGON) (found t j) g)) in
      let l = and_first (typed t j (I4 ∷ I8 ∷ []) && shaped t j (n ∷ 2 ∷ [])) _
      (when (found t j) (parents_lawful t s) (parent-rule b a.image s h p.is-validated p.elements) f) in
      let d = shaped-is t j (n ∷ 2 ∷ []) (and_second (typed t j (I4 ∷ I8 ∷ [])) _ l) in
      record {
        sizes = d;
        stores = stores_by a.sound j (ltb-true j (node_count b) f) (whole_wide t j (and_first (typed t j (I4 ∷ I8 ∷ [])) _ l)) (n ∷ 2 ∷ []) d;
      }

-- n is the first dimension
pub columns_long : {b : List ℕ} {a n : ℕ} → Columns b a n → get_or (dimensions (tree_of b) a) 0 0 ≡ n
columns_long c = ap (λ (l : List ℕ). get_or l 0 0) c.sizes

-- no more numbers than bytes
few : (w n : ℕ) → T (is_width w) → n ≤ w * n
few zero n h = absurd h
few (suc w) n h = rw suc-mul (omega arith)

-- the row of a node with two columns
module _ {b : List ℕ} (s : Sound b) {a n : ℕ} (c : Columns b a n) where
  pub two-words : ((node (tree_of b) a).rank ≡ 2) × ((node (tree_of b) a).first_word + (node (tree_of b) a).rank ≤ word_count b)
  two-words = (sym (rank_is (tree_of b) a) ∙ ap length c.sizes, (node-placed b s.table a c.stores.inside).words_in)

  pub column_short : n * 2 ≤ 16777216
  column_short = omega (arith, few (width (tree_of b) a) (n * 2) c.stores.wide, (stores_row s c.stores).inside, s.laid.short)

  pub parent_row : {at w m : ℕ} → at ≡ data_from_lem b a → w ≡ width (tree_of b) a → m ≡ n → ParentRow b a n (record { at = at; width = w; n = 2 * m })
  parent_row {at} {w} {m} e f g =
      let q : 2 * m ≡ n * 2 = omega (arith, g) in
      record {
        numbers = rw (e, f, q) (stores_row s c.stores);
        none = λ h. absurd (omega (arith, c.stores.inside));
        long = λ h. q;
        stored = λ k h. rw (e, f) (stores-number s c.stores k (omega (arith, q)));
      }

-- the row of a missing node
pub no_row : {b : List ℕ} → Sound b → ParentRow b (node_count b) (get_or (dimensions (tree_of b) (node_count b)) 0 0) (record { at = 0; width = 4; n = 0 })
no_row s = record { numbers = record { wide = tt; inside = omega arith }; none = λ h. refl; long = λ h. absurd (omega arith); stored = λ k h. absurd (omega arith) }
