-- The numbers of a section of an accepted image are not negative, but for its connectivity's: their bits are their values.
use Prim.Native.Nat.{ℕ, ◌≤◌, ◌<◌}
use mathlib.Core.Path.{◌≡◌, refl, sym, ◌∙◌}
use mathlib.Core.Bool.{Bool, true, false, ◌&&◌}
use mathlib.Core.List.{List, [], ◌∷◌}
use native.Mathlib.Omega.{arith}
use lib.IntN.{pos}
use lib.Dec.{eqb, leb, ltb}
use borrow.Author.Tests.{eqb-true, leb-true, leb-false, ne_eqb}
use Rattle.model.specs.Lists.{Row, ◌has◌, row, among}
use Rattle.model.specs.Bytes.{text, signed}
use Rattle.model.specs.Image.{Tree, tree_of, data_type_of, width, I4, I8}
use Rattle.model.specs.Containment.{role, Zone, IndexRange, is_zone, validated}
use Rattle.model.specs.Values.{sids_rules, typed, shaped, range_shape, type_lawful, index_dimension, vertex_size, range_of, offsets_of, connectivity_of}
use Rattle.model.specs.Elements.{nodes_per, has_offsets, taken, element_type_of, first_element, last_element, start_offset, element_rules}
use Rattle.model.specs.Elements.{MIXED, element_count, own_type, fits_length, type_fits, layout_of}
use Rattle.model.specs.Demand3.{NoneNegative}
use Rattle.model.proofs.Logic.{untrue, and_first, and_second, or_left, or_cases, when}
use Rattle.model.proofs.Accepted.{sids_rule}
use Rattle.model.proofs.Conforming.{conforming-type, conforming-role}
use Rattle.model.proofs.TwosComplement.{half-wide, signed_is}
use Rattle.model.proofs.Arrays.{width_lawful_lem}
use Rattle.model.proofs.InZone.{InZone, parts, role-is, section-rule, range, range-found, offsets-not-negative, connectivity, type_fits_lem}
use Rattle.model.proofs.References.{zone-kind, zone-listed, vertex_size-small}

-- a key past all keys of a table
keys_to : ℕ → List (Row ℕ) → Bool
keys_to n [] = true
keys_to n ((k has v) ∷ rest) = leb k n && keys_to n rest

row_past : (n key default : ℕ) (rows : List (Row ℕ)) → keys_to n rows ≡ true → n < key → row key default rows ≡ default
unfolding row keys_to
row_past n key default [] e h = refl
row_past n key default ((k has v) ∷ rest) e h =
    let l = leb-true k n (and_first (leb k n) _ e) in
    rw (ne_eqb key k (λ q. omega arith)) (row_past n key default rest (and_second (leb k n) _ e) h)

-- a type that is taken is small
not_taken : (y : ℕ) → 23 < y → taken y ≡ false
unfolding taken nodes_per has_offsets keys_to
not_taken y h = rw (row_past 23 y 0 _ refl h, ne_eqb y 20 (λ q. omega arith), ne_eqb y 22 (λ q. omega arith), ne_eqb y 23 (λ q. omega arith))

type-small : (y : ℕ) → taken y ≡ true → y ≤ 23
type-small y e = by_test (leb y 23) refl
  where
    by_test : (t : Bool) → leb y 23 ≡ t → y ≤ 23
    by_test true q = leb-true y 23 q
    by_test false q = untrue (sym (not_taken y (leb-false y 23 q)) ∙ e)

-- a number up to 2,147,483,647 of I4 or I8
small_signed : (t : Tree) (i x : ℕ) → typed t i (I4 ∷ I8 ∷ []) ≡ true → x ≤ 2147483647 → signed (width t i) x ≡ pos x
small_signed t i x e h = signed_is (width t i) x (omega (arith, half-wide (width t i) (width_lawful_lem t i e)))

module _ {b : List ℕ} {z s : ℕ} (a : InZone b z s) where
  -- 24 at the section, at its ElementRange and at the zone
  section-typed : typed (tree_of b) s (I4 ∷ I8 ∷ []) ≡ true
  unfolding sids_rules type_lawful row typed among
  section-typed =
      let e = rw (role-is a) at (sids_rule b a.accepted 24 s a.listed (parts a).is-validated) in
      or_cases (eqb (data_type_of (tree_of b) s) I4) false (and_first (typed (tree_of b) s (I4 ∷ [])) _ e) (λ h. or_left _ _ h) (λ h. untrue h)

  range-typed : typed (tree_of b) (range_of (tree_of b) s) (I4 ∷ I8 ∷ []) ≡ true
  unfolding type_lawful row range_of
  range-typed =
      and_first _ (range_shape (tree_of b) (range_of (tree_of b) s))
      (rw (conforming-role (tree_of b) s IndexRange (text "ElementRange") (range-found a)) at
      (conforming-type (tree_of b) s IndexRange (text "ElementRange") (range-found a)))

  -- 27 and 38
  pub own-type-small : (k : ℕ) → k < element_count (tree_of b) s → own_type (layout_of (tree_of b) s) k ≤ 23
  unfolding own_type layout_of element_rules taken type_fits fits_length
  own-type-small k h = by_type (eqb (element_type_of (tree_of b) s) MIXED) refl
    where
      own : ℕ
      own = own_type (layout_of (tree_of b) s) k

      by_type : (t : Bool) → eqb (element_type_of (tree_of b) s) MIXED ≡ t → own ≤ 23
      by_type true m = type-small own (or_left (ltb 0 (nodes_per own)) _ (and_first (ltb 0 (nodes_per own)) _ (when _ _ (type_fits_lem a k h) m)))
      by_type false m = rw m (type-small (element_type_of (tree_of b) s) (section-rule a 27))

  module _ (zone : is_zone (tree_of b) z ≡ true) where
    zone-typed : typed (tree_of b) z (I4 ∷ I8 ∷ []) ≡ true
    unfolding sids_rules type_lawful row
    zone-typed =
        and_first _ (shaped (tree_of b) z (index_dimension (tree_of b) z ∷ 3 ∷ []))
        (rw (eqb-true (role (tree_of b) z) Zone (and_first _ (validated (tree_of b) z) (zone-kind a zone))) at
        (sids_rule b a.accepted 24 z (zone-listed a zone) (and_second (eqb (role (tree_of b) z) Zone) _ (zone-kind a zone))))

    pub not-one-negative : NoneNegative (tree_of b) z s
    unfolding element_rules
    not-one-negative =
        let t = tree_of b in
        let r = range a in
        record {
          type-is = small_signed t s (element_type_of t s) section-typed (omega (arith, type-small (element_type_of t s) (section-rule a 27)));
          first-is = small_signed t (range_of t s) (first_element t s) range-typed (omega arith);
          last-is = small_signed t (range_of t s) (last_element t s) range-typed (omega arith);
          offset-is = λ o i h. signed_is (width t (offsets_of t s)) (start_offset t s i) (offsets-not-negative a o i h);
          own-type-is = λ m i h.
              let w = width t (connectivity_of t s) in
              signed_is w (own_type (layout_of t s) i) (omega (arith, own-type-small i h, half-wide w (connectivity a).wide));
          vertex_size-is = small_signed t z (vertex_size t z 0) zone-typed (vertex_size-small a zone);
        }
