-- The sections of a zone of an accepted image: what rules 20 to 28 say of their type and range, and what their faces' places are.
use Prim.Native.Nat.{ℕ, zero, suc, ◌+◌, ◌*◌, ◌-◌, ◌≤◌, ◌<◌, max}
use mathlib.Core.Path.{◌≡◌, refl, sym, ap, subst, ◌∙◌}
use mathlib.Core.Bool.{Bool, true, false, cond, ◌&&◌}
use mathlib.Core.List.{List}
use native.Mathlib.Omega.{arith}
use lib.Dec.{eqb, leb}
use borrow.Author.Tests.{eqb-true, leb-true}
use Rattle.model.specs.Lists.{seek_from, sum_before, count_from}
use Rattle.model.specs.Bytes.{text}
use Rattle.model.specs.Image.{tree_of, node_count, parent, number}
use Rattle.model.specs.Given.{Accepted}
use Rattle.model.specs.Containment.{section_of, found, Elements, IndexRange}
use Rattle.model.specs.Values.{sids_rules, type_lawful, value_lawful, range_of}
use Rattle.model.specs.Elements.{NGON, NFACE, element_type_of, first_element, last_element, element_count, in_range, connectivity_length}
use Rattle.model.specs.Elements.{conforming_section, face_section, has_face, face_of, section_with_face, face_number}
use Rattle.model.specs.FaceUsage.{faces_in, face_count, face_place}
use Rattle.model.proofs.Logic.{untrue, and_first, and_second, and_both}
use Rattle.model.proofs.Walks.{some_at, seek_holds, seek_before, sum_part}
use Rattle.model.proofs.Accepted.{sids_rule}
use Rattle.model.proofs.Conforming.{section-is, conforming-inside, conforming-parent, conforming-role}
use Rattle.model.proofs.InZone.{InZone, parts, role-is, range-found}
use Rattle.model.proofs.References.{InRange, one-section, reference-face}
use Rattle.index.specs.Index.{Index, kind}
use Rattle.index.proofs.Marking.{kind-role}
use Rattle.types.specs.Given.{HasNumber}
use Rattle.ranges.proofs.Cases.{both}
use Rattle.ranges.proofs.Half.{half}
use Rattle.section_data.specs.Given.{Ranged}
use Rattle.section_data.proofs.Stored.{range_ready, stores-has}
use Rattle.section_data.proofs.RangeLaws.{lawful_has}
use Rattle.face_places.specs.declared.zone_sections.Span.{Span}
use Rattle.face_places.specs.ZoneSections.{Section, Spans}

pub count_read : {b : List ℕ} {s : ℕ} {r : Span} → Spans b s r → element_count (tree_of b) s ≡ r.last - r.first + 1
unfolding element_count
count_read g = rw (g.is-first, g.is_last)

-- a section, by its zone
pub section_by : {b index : List ℕ} → Accepted b → Index b index → (z s : ℕ) → s < node_count b → section_of (tree_of b) z s ≡ true → Section b index s
section_by {b} a i z s h e = record { accepted = a; indexed = i; inside = h; is-section = rw (section-is (tree_of b) z s e).parent_is e }

module _ {b index : List ℕ} {s : ℕ} (n : Section b index s) where
  pub own-zone : InZone b (parent (tree_of b) s) s
  own-zone = record { accepted = n.accepted.image; listed = n.inside; is-section = n.is-section }

  pub section-kind : kind (tree_of b) s ≡ Elements
  section-kind = kind-role (tree_of b) s (parts own-zone).is-validated (role-is own-zone)

  section-ranged : Ranged b s
  section-ranged = range_ready n.accepted.sound s (role-is own-zone) (range-found own-zone)

  -- its range, as it is read
  module _ {r : ℕ} (q : r ≡ range_of (tree_of b) s) where
    pub range-has : (k : ℕ) → k < 2 → HasNumber b r k
    range-has k l = subst (λ (r : ℕ). HasNumber b r k) (sym q) (stores-has n.accepted.sound section-ranged.range k l)

    pub spans : {x y : ℕ} → x ≡ number (tree_of b) r 0 → y ≡ number (tree_of b) r 1 → Spans b s (record { first = x; last = y })
    unfolding first_element last_element
    spans {x} {y} f l =
        let g = section-ranged in
        let p : x ≡ number (tree_of b) (range_of (tree_of b) s) 0 = f ∙ ap (λ (r : ℕ). number (tree_of b) r 0) q in
        let m : y ≡ number (tree_of b) (range_of (tree_of b) s) 1 = l ∙ ap (λ (r : ℕ). number (tree_of b) r 1) q in
        record { is-first = p; is_last = m; one = omega (arith, g.one, p); up = omega (arith, g.up, p, m); most = omega (arith, g.most, m) }

module _ {b : List ℕ} (a : Accepted b) (z : ℕ) where
  module _ (s : ℕ) (h : s < node_count b) (e : section_of (tree_of b) z s ≡ true) where
    in_zone : InZone b z s
    in_zone = record { accepted = a.image; listed = h; is-section = e }

    -- 24, 25
    type_lawful_lem : type_lawful (tree_of b) s ≡ true
    unfolding sids_rules
    type_lawful_lem = sids_rule b a.image 24 s h (parts in_zone).is-validated

    value_lawful_lem : value_lawful (tree_of b) s ≡ true
    unfolding sids_rules
    value_lawful_lem = sids_rule b a.image 25 s h (parts in_zone).is-validated

    -- its type can be read
    pub section-has : HasNumber b s 0
    section-has = lawful_has a.sound s h (role-is in_zone) (and_both _ _ type_lawful_lem value_lawful_lem)

  -- a face section: a section of type 22
  pub face-section-is : (s : ℕ) → s < node_count b → face_section (tree_of b) z s ≡ (section_of (tree_of b) z s && eqb (element_type_of (tree_of b) s) NGON)
  unfolding face_section conforming_section
  face-section-is s h = by_test (section_of (tree_of b) z s) refl
    where
      by_test : (u : Bool) → section_of (tree_of b) z s ≡ u
          → (u && type_lawful (tree_of b) s && value_lawful (tree_of b) s && found (tree_of b) (range_of (tree_of b) s) && eqb (element_type_of (tree_of b) s) NGON)
          ≡ (u && eqb (element_type_of (tree_of b) s) NGON)
      by_test true e = rw (type_lawful_lem s h e, value_lawful_lem s h e, range-found (in_zone s h e))
      by_test false e = refl

  module _ (s : ℕ) (h : s < node_count b) (e : face_section (tree_of b) z s ≡ true) where
    face_in_zone : InZone b z s
    face_in_zone = in_zone s h (and_first (section_of (tree_of b) z s) _ (sym (face-section-is s h) ∙ e))

    pub face-ranged : Ranged b s
    face-ranged = range_ready a.sound s (role-is face_in_zone) (range-found face_in_zone)

    -- the faces that it brings
    pub faces_are : faces_in (tree_of b) z s ≡ element_count (tree_of b) s
    unfolding faces_in
    faces_are = rw e

  -- its ElementRange is a child of its own, and no section
  own : (s : ℕ) → s < node_count b → face_section (tree_of b) z s ≡ true
      → (range_of (tree_of b) s < node_count b) × (parent (tree_of b) (range_of (tree_of b) s) ≡ s) × (face_section (tree_of b) z (range_of (tree_of b) s) ≡ false)
  unfolding range_of tree_of
  own s h e =
      let n = text "ElementRange" in
      let f = range-found (face_in_zone s h e) in
      let l = conforming-inside (tree_of b) s IndexRange n f in (
        l,
        conforming-parent (tree_of b) s IndexRange n f,
        both _ _ (λ g. absurd (omega (arith, role-is (face_in_zone (range_of (tree_of b) s) l g), conforming-role (tree_of b) s IndexRange n f))) untrue,
      )

  -- so there are no more than 2,048
  pub few-sections : count_from (face_section (tree_of b) z) (node_count b) 0 ≤ 2048
  few-sections = omega (arith, half (face_section (tree_of b) z) (range_of (tree_of b)) (parent (tree_of b)) (node_count b) own, a.sound.laid.few)

  -- 28: no two of them meet
  pub apart : (s q : ℕ) → s < node_count b → q < node_count b → face_section (tree_of b) z s ≡ true → face_section (tree_of b) z q ≡ true
      → first_element (tree_of b) s ≤ last_element (tree_of b) q → first_element (tree_of b) q ≤ last_element (tree_of b) s → s ≡ q
  apart s q h l e g i j =
      let x = (face-ranged s h e).up in
      let y = (face-ranged q l g).up in
      one-section (face_in_zone s h e) (face_in_zone q l g) (max (first_element (tree_of b) s) (first_element (tree_of b) q))
      (record { from = omega arith; to = omega arith }) (record { from = omega arith; to = omega arith })

  -- a face of a face section: its place
  module _ (s f : ℕ) (h : s < node_count b) (e : has_face (tree_of b) z f s ≡ true) where
    in_range_lem : InRange (tree_of b) s f
    unfolding has_face in_range
    in_range_lem =
        let r = and_second (face_section (tree_of b) z s) _ e in
        record {
          from = leb-true _ _ (and_first (leb (first_element (tree_of b) s) f) _ r);
          to = leb-true _ _ (and_second (leb (first_element (tree_of b) s) f) _ r);
        }

    face-holds : face_section (tree_of b) z s ≡ true
    unfolding has_face
    face-holds = and_first (face_section (tree_of b) z s) _ e

  -- one section has it
  pub found-is : (s f : ℕ) → s < node_count b → has_face (tree_of b) z f s ≡ true → section_with_face (tree_of b) z f ≡ s
  unfolding section_with_face tree_of
  found-is s f h e =
      let q = seek_from (has_face (tree_of b) z f) (node_count b) 0 in
      let l = seek_before (has_face (tree_of b) z f) (node_count b) 0 s e (omega arith) (omega arith) in
      let m : q < node_count b = omega arith in
      let g = seek_holds (has_face (tree_of b) z f) (node_count b) 0 (omega arith) in
      one-section (face_in_zone q m (face-holds q f m g)) (face_in_zone s h (face-holds s f h e)) f (in_range_lem q f m g) (in_range_lem s f h e)

  pub place_is : (s f : ℕ) → s < node_count b → has_face (tree_of b) z f s ≡ true
      → (face_place (tree_of b) z f ≡ sum_before (faces_in (tree_of b) z) s + (f - first_element (tree_of b) s)) × (face_place (tree_of b) z f < face_count (tree_of b) z)
  unfolding face_place face_count tree_of element_count
  place_is s f h e =
      let q = found-is s f h e in
      let p : face_place (tree_of b) z f ≡ sum_before (faces_in (tree_of b) z) s + (f - first_element (tree_of b) s) = rw q in
      let r = in_range_lem s f h e in
      let c = faces_are s h (face-holds s f h e) in
      let m = sum_part (faces_in (tree_of b) z) s (node_count b) h in
      (p, omega (arith, p, c, m, r.from, r.to))

  pub place-below : (f : ℕ) → face_of (tree_of b) z f ≡ true → face_place (tree_of b) z f < face_count (tree_of b) z
  unfolding face_of tree_of
  place-below f e = let u = some_at (has_face (tree_of b) z f) (node_count b) 0 e in (place_is u.at f (omega (arith, u.to)) u.holds).1

  -- 35 to 37: each reference of a cell section is to a face of the zone
  pub cells_faces : (s : ℕ) → s < node_count b → (section_of (tree_of b) z s && eqb (element_type_of (tree_of b) s) NFACE) ≡ true
      → (k : ℕ) → k < connectivity_length (tree_of b) s → face_of (tree_of b) z (face_number (tree_of b) s k) ≡ true
  cells_faces s h e k l =
      reference-face (in_zone s h (and_first (section_of (tree_of b) z s) _ e)) (eqb-true _ _ (and_second (section_of (tree_of b) z s) _ e)) k l

  -- how many faces a node brings, and the nodes before i together
  few_faces : (s : ℕ) → s < node_count b → faces_in (tree_of b) z s ≤ 2147483647
  unfolding faces_in element_count
  few_faces s h = by_test (face_section (tree_of b) z s) refl
    where
      by_test : (u : Bool) → face_section (tree_of b) z s ≡ u → cond u (element_count (tree_of b) s) 0 ≤ 2147483647
      by_test true e = let r = face-ranged s h e in omega (arith, r.one, r.up, r.most)
      by_test false e = omega arith

  pub total-small : (i : ℕ) → i ≤ node_count b → sum_before (faces_in (tree_of b) z) i ≤ i * 2147483647
  unfolding sum_before
  total-small zero h = omega arith
  total-small (suc i) h =
      let l = total-small i (omega arith) in
      let q = few_faces i (omega arith) in
      let r : suc i * 2147483647 ≡ i * 2147483647 + 2147483647 = omega arith in
      rw r (omega arith)
