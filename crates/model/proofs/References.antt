-- What a section of an accepted image refers to: nodes from 1 to VertexSize, or faces. No element number is in two sections of a zone.
use Prim.Native.Nat.{ℕ, ◌≤◌, ◌<◌}
use mathlib.Core.Path.{◌≡◌, refl, sym, ◌∙◌}
use mathlib.Core.Bool.{true, false, not, ◌&&◌}
use mathlib.Core.List.{List}
use native.Mathlib.Omega.{arith}
use lib.IntN.{pos, nat_abs}
use lib.Dec.{eqb, leb, ltb}
use borrow.Author.Tests.{eqb-true, ne_eqb, leb-true, le-leb, ltb-true, not-true}
use Rattle.model.specs.Lists.{row, every_from}
use Rattle.model.specs.Bytes.{text, same, signed}
use Rattle.model.specs.Rules.{passed}
use Rattle.model.specs.Image.{Tree, tree_of, node_count, parent, stored, width}
use Rattle.model.specs.Containment.{role, Zone, Elements, is_zone, validated_as, validated, section_of, may_hold}
use Rattle.model.specs.Values.{sids_rules, reads, structured, unstructured, zone_type_of, index_dimension, vertex_size, cell_size, unstructured_sizes, zone_value}
use Rattle.model.specs.Values.{value_lawful, placed, connectivity_of}
use Rattle.model.specs.Elements.{NGON, NFACE, element_type_of, first_element, last_element, in_range, meets, overlap, overlaps, reference, connectivity_length}
use Rattle.model.specs.Elements.{is_type_number, is_node, conforming_section, face_section, has_face, face_of, face_number, is_face, element_rules, reference_rules}
use Rattle.model.specs.Validation.{image_check}
use Rattle.model.proofs.Logic.{same-is, untrue, and_first, and_second, and_both, or_cases, when, neither}
use Rattle.model.proofs.Walks.{every_at, some_by, some_at}
use Rattle.model.proofs.Accepted.{sids_rule}
use Rattle.model.proofs.Sections.{not_root}
use Rattle.model.proofs.TwosComplement.{half-wide, signed_is, magnitude-is}
use Rattle.model.proofs.InZone.{InZone, parts, role-is, section-rule, section-entry, connectivity, range}
use Rattle.model.proofs.ReferenceChecks.{conforms_section, rules_face}

-- an element number in a section's range
pub record InRange (t : Tree) (s f : ℕ) : Type 0 where
  pub from : first_element t s ≤ f
  pub to : f ≤ last_element t s

-- an unstructured zone is not structured, and has one index dimension
one-direction : (t : Tree) (z : ℕ) → unstructured t z ≡ true → structured t z ≡ false
unfolding unstructured structured reads text same
one-direction t z e = rw (same-is (stored t (zone_type_of t z)) (text "Unstructured") e)

module _ {b : List ℕ} {z s : ℕ} (a : InZone b z s) where
  -- 20: a section stands in an unstructured zone
  in_unstructured : unstructured (tree_of b) z ≡ true
  unfolding sids_rules placed
  in_unstructured =
      or_cases (eqb s 0) _ (sids_rule b a.accepted 20 s a.listed (parts a).is-validated)
      (λ h. absurd (not_root (tree_of b) s Elements (role-is a) refl (eqb-true s 0 h)))
      (λ h. rw (parts a).parent_is at
      (when (eqb (role (tree_of b) s) Elements) _ (and_second (may_hold (role (tree_of b) (parent (tree_of b) s)) (role (tree_of b) s)) _ h) (parts a).elements))

  module _ (zone : is_zone (tree_of b) z ≡ true) where
    pub zone-kind : (eqb (role (tree_of b) z) Zone && validated (tree_of b) z) ≡ true
    unfolding is_zone validated_as
    zone-kind = and_second (ltb z (tree_of b).count) _ zone

    pub zone-listed : z < node_count b
    unfolding is_zone tree_of
    zone-listed = ltb-true z (node_count b) (and_first (ltb z (node_count b)) _ zone)

    zone-sizes : zone_value (tree_of b) z ≡ true
    unfolding sids_rules value_lawful row
    zone-sizes =
        rw (eqb-true (role (tree_of b) z) Zone (and_first _ (validated (tree_of b) z) zone-kind)) at
        (sids_rule b a.accepted 25 z zone-listed (and_second (eqb (role (tree_of b) z) Zone) _ zone-kind))

    -- 25
    pub vertex_size-small : vertex_size (tree_of b) z 0 ≤ 2147483647
    unfolding zone_value index_dimension every_from unstructured_sizes
    vertex_size-small =
        let v = vertex_size (tree_of b) z 0 in
        let e : every_from (unstructured_sizes (tree_of b) z) 1 0 ≡ true = rw (one-direction (tree_of b) z in_unstructured) at zone-sizes in
        let h = every_at (unstructured_sizes (tree_of b) z) 1 0 0 e (omega arith) (omega arith) in
        leb-true v 2147483647
        (and_second (leb 1 v) _
        (and_first (leb 1 v && leb v 2147483647) _
        (and_first (leb 1 v && leb v 2147483647 && leb (cell_size (tree_of b) z 0) 2147483647) _ h)))

  -- 34
  pub node-inside : (element_type_of (tree_of b) s ≡ NFACE → ⊥) → (i : ℕ) → i < connectivity_length (tree_of b) s → is_type_number (tree_of b) s i ≡ false
      → (1 ≤ reference (tree_of b) s i) × (reference (tree_of b) s i ≤ vertex_size (tree_of b) z 0)
  unfolding reference_rules is_node
  node-inside n i h y =
      let x = reference (tree_of b) s i in
      let r = when (not (eqb (element_type_of (tree_of b) s) NFACE)) (is_node (tree_of b) s i) (section-entry a 34 i h) (rw (ne_eqb (element_type_of (tree_of b) s) NFACE n)) in
      let e = rw ((parts a).parent_is, y) at r in
      (leb-true 1 x (and_first (leb 1 x) _ e), leb-true x (vertex_size (tree_of b) z 0) (and_second (leb 1 x) _ e))

  -- 28: an element number is not in the range of an earlier section too
  apart : {r : ℕ} → InZone b z r → r < s → (f : ℕ) → InRange (tree_of b) s f → InRange (tree_of b) r f → ⊥
  unfolding element_rules overlaps overlap meets
  apart {r} a' l f p q =
      let t = tree_of b in
      let m =
      and_both (section_of t (parent t s) r) (meets t s r) (rw (parts a).parent_is a'.is-section)
      (and_both _ _ (le-leb (first_element t s) (last_element t r) (omega arith)) (le-leb (first_element t r) (last_element t s) (omega arith))) in
      untrue (sym (not-true (overlaps t s) (section-rule a 28)) ∙ some_by (overlap t s) s 0 r m (omega arith) (omega arith))

-- so a number that is in two ranges is in one section's
pub one-section : {b : List ℕ} {z s r : ℕ} → InZone b z s → InZone b z r → (f : ℕ) → InRange (tree_of b) s f → InRange (tree_of b) r f → s ≡ r
one-section {s = s} {r = r} a a' f p q = neither s r (λ l. apart a' a l f q p) (λ l. apart a a' l f p q)

-- the section of the zone that has a face
pub record HasFace (b : List ℕ) (z f : ℕ) : Type 0 where
  pub section : ℕ
  pub in_zone : InZone b z section
  pub face-section : element_type_of (tree_of b) section ≡ NGON
  pub has : InRange (tree_of b) section f

found-face : {b : List ℕ} → image_check b ≡ passed → (z f j : ℕ) → j < node_count b → has_face (tree_of b) z f j ≡ true → HasFace b z f
unfolding has_face face_section in_range
found-face {b} ok z f j l e =
    let t = tree_of b in
    let g = and_first (face_section t z j) _ e in
    let r = and_second (face_section t z j) (in_range t j f) e in
    record {
      section = j;
      in_zone =
          record {
            accepted = ok;
            listed = l;
            is-section = conforms_section t z j (and_first (conforming_section t z j) _ g);
          };
      face-section = eqb-true (element_type_of t j) NGON (and_second (conforming_section t z j) _ g);
      has =
          record {
            from = leb-true (first_element t j) f (and_first (leb (first_element t j) f) _ r);
            to = leb-true f (last_element t j) (and_second (leb (first_element t j) f) _ r);
          };
    }

-- 35, 36, 37
pub reference-face : {b : List ℕ} {z s : ℕ} → InZone b z s → element_type_of (tree_of b) s ≡ NFACE → (i : ℕ) → i < connectivity_length (tree_of b) s
    → face_of (tree_of b) z (face_number (tree_of b) s i) ≡ true
unfolding reference_rules is_face
reference-face {b} {s = s} a e i h =
    rw (parts a).parent_is at (rules_face (tree_of b) s i e (section-entry a 35 i h) (section-entry a 36 i h) (section-entry a 37 i h))

pub face-inside : {b : List ℕ} {z s : ℕ} → InZone b z s → element_type_of (tree_of b) s ≡ NFACE → (i : ℕ) → i < connectivity_length (tree_of b) s
    → HasFace b z (face_number (tree_of b) s i)
unfolding face_of tree_of
face-inside {b} {z} {s} a e i h =
    let t = tree_of b in
    let f = face_number t s i in
    let u = some_at (has_face t z f) (node_count b) 0 (reference-face a e i h) in
    found-face a.accepted z f u.at (omega (arith, u.to)) u.holds

-- what a signed reference says: a node number, or a face number's magnitude
module _ {b : List ℕ} {z s : ℕ} (a : InZone b z s) where
  pub node-signed : is_zone (tree_of b) z ≡ true → (element_type_of (tree_of b) s ≡ NFACE → ⊥) → (i : ℕ) → i < connectivity_length (tree_of b) s
      → is_type_number (tree_of b) s i ≡ false
      → signed (width (tree_of b) (connectivity_of (tree_of b) s)) (reference (tree_of b) s i) ≡ pos (reference (tree_of b) s i)
  node-signed zone n i h y =
      let w = width (tree_of b) (connectivity_of (tree_of b) s) in
      signed_is w (reference (tree_of b) s i)
      (omega (arith, node-inside a n i h y, vertex_size-small a zone, half-wide w (connectivity a).wide))

  pub face-signed : element_type_of (tree_of b) s ≡ NFACE → (i : ℕ) → i < connectivity_length (tree_of b) s
      → nat_abs (signed (width (tree_of b) (connectivity_of (tree_of b) s)) (reference (tree_of b) s i)) ≡ face_number (tree_of b) s i
  unfolding face_number
  face-signed e i h =
      let f = face-inside a e i h in
      magnitude-is (width (tree_of b) (connectivity_of (tree_of b) s)) (reference (tree_of b) s i) (omega (arith, f.has, range f.in_zone))
