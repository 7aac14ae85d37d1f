-- One face of a zone: the section that brings it, as a walk over the nodes finds it, and the two numbers that it stores for the face.
use Prim.Native.Nat.{ℕ, zero, suc, ◌+◌, ◌*◌, ◌-◌, ◌≤◌, ◌<◌}
use mathlib.Core.Path.{◌≡◌, refl, sym, ap, ◌∙◌}
use mathlib.Core.Bool.{Bool, true, false, cond, ◌&&◌, ◌||◌}
use mathlib.Core.List.{List, [], ◌∷◌}
use native.Mathlib.Omega.{arith}
use lib.Dec.{eqb, leb, ltb}
use lib.ListN.{get_or}
use borrow.Author.Tests.{lt-ltb, le-ltb, le-leb, lt-leb, leb-true, eqb-true}
use Rattle.std.proofs.Common.{None, Some}
use Rattle.model.specs.Found.{if_below}
use Rattle.model.proofs.Found.{the_some, the_none}
use Rattle.model.specs.Lists.{some_from, seek_from}
use Rattle.model.specs.Rules.{◌unless◌, Answer, rejected, answer, rejection, check, ◌gives◌}
use Rattle.model.specs.Image.{tree_of, node_count, dimensions}
use Rattle.model.specs.Given.{Accepted}
use Rattle.model.specs.Containment.{section_of, found}
use Rattle.model.specs.Elements.{NGON, element_type_of, first_element, last_element, element_count, in_range}
use Rattle.model.specs.Elements.{has_face, face_of, section_with_face, parents_of, first_parent, second_parent}
use Rattle.model.specs.Corner.{number_at}
use Rattle.model.specs.ParentElements.{FaceParents, stored_parents}
use Rattle.model.proofs.Logic.{and_first, and_second, and_both}
use Rattle.model.proofs.Walks.{seek_holds}
use Rattle.model.proofs.Passed.{then-on, then-off}
use Rattle.model.proofs.Staging.{broken, kept, no_rule}
use Rattle.index.specs.Index.{Index}
use Rattle.rows.specs.declared.Row.{Row}
use Rattle.face_places.specs.declared.zone_sections.Span.{Span}
use Rattle.face_places.specs.ZoneSections.{Section, Spans}
use Rattle.face_places.proofs.Accepted.{count_read, section_by, face-section-is}
use Rattle.face_parents.specs.Parents.{Columns, ParentRow}
use Rattle.face_parents.proofs.Columns.{columns_long, found_by, has_parents_is, columns}

-- a walk finds one where there is one
some_seek : (p : ℕ → Bool) (k i n : ℕ) → n ≡ i + k → some_from p k i ≡ ltb (seek_from p k i) n
unfolding some_from seek_from
some_seek p zero i n q = sym (le-ltb i n (omega arith))
some_seek p (suc k) i n q = by_test (p i) (some_seek p k (suc i) n (omega arith))
  where
    by_test : (t : Bool) → some_from p k (suc i) ≡ ltb (seek_from p k (suc i)) n → (t || some_from p k (suc i)) ≡ ltb (cond t i (seek_from p k (suc i))) n
    by_test true e = sym (lt-ltb i n (omega arith))
    by_test false e = e

-- a section of type 22 whose range holds f
pub has-face-is : {b : List ℕ} → Accepted b → (z f s : ℕ) → s < node_count b
    → has_face (tree_of b) z f s ≡ ((section_of (tree_of b) z s && eqb (element_type_of (tree_of b) s) NGON) && in_range (tree_of b) s f)
unfolding has_face
has-face-is {b} a z f s h = ap (λ (x : Bool). x && in_range (tree_of b) s f) (face-section-is a z s h)

module _ {b : List ℕ} {s : ℕ} {p : Span} (g : Spans b s p) (f : ℕ) where
  pub before_span : f < p.first → false ≡ in_range (tree_of b) s f
  unfolding in_range
  before_span h = rw (← g.is-first, lt-leb p.first f h)

  pub from_first : p.first ≤ f → leb f p.last ≡ in_range (tree_of b) s f
  unfolding in_range
  from_first h = rw (← g.is-first, ← g.is_last, le-leb p.first f h)

  -- f is the k-th of n faces, and its numbers are the k-th and the (n + k)-th
  module _ (i : in_range (tree_of b) s f ≡ true) where
    pub in_span : (p.first ≤ f) × (f ≤ p.last)
    unfolding in_range
    in_span =
        let l = leb-true (first_element (tree_of b) s) f (and_first (leb (first_element (tree_of b) s) f) _ i) in
        let u = leb-true f (last_element (tree_of b) s) (and_second (leb (first_element (tree_of b) s) f) _ i) in
        (omega (arith, g.is-first), omega (arith, g.is_last))

    module _ {a : ℕ} (e : a ≡ parents_of (tree_of b) s) (c : Columns b a (element_count (tree_of b) s)) {r : Row}
        (w : ParentRow b a (get_or (dimensions (tree_of b) a) 0 0) r) where
      pub row-long : r.n ≡ (p.last - p.first + 1) * 2
      row-long = w.long c.stores.inside ∙ ap (λ (n : ℕ). n * 2) (columns_long c ∙ count_read g)

      pub stored_pair : {x y : ℕ} → x ≡ number_at b r.at r.width (f - p.first)
          → y ≡ number_at b r.at r.width (p.last - p.first + 1 + (f - p.first))
          → ◌≡◌ {A = Answer FaceParents} (answer (record { first = x; second = y })) (answer (stored_parents (tree_of b) s f))
      unfolding stored_parents first_parent second_parent
      stored_pair q u =
          let l = in_span in
          let k = w.stored (f - p.first) (omega (arith, row-long)) in
          let m = w.stored (p.last - p.first + 1 + (f - p.first)) (omega (arith, row-long)) in
          rw (q, u, ← g.is-first, count_read g, ← e, k, m)

-- the section that a walk found
module _ {b index : List ℕ} (a : Accepted b) (i : Index b index) (z f : ℕ) {s : ℕ} (o : Some s ≡ if_below (node_count b) (section_with_face (tree_of b) z f)) where
  e : s ≡ section_with_face (tree_of b) z f
  e = (the_some (sym o)).0

  pub face_inside : s < node_count b
  face_inside = omega (arith, e, (the_some (sym o)).1)

  brings : ((section_of (tree_of b) z s && eqb (element_type_of (tree_of b) s) NGON) && in_range (tree_of b) s f) ≡ true
  unfolding section_with_face tree_of
  brings = sym (has-face-is a z f s face_inside) ∙ rw e (seek_holds (has_face (tree_of b) z f) (node_count b) 0 (omega (arith, e, face_inside)))

  of_type_lem : (section_of (tree_of b) z s && eqb (element_type_of (tree_of b) s) NGON) ≡ true
  of_type_lem = and_first _ (in_range (tree_of b) s f) brings

  pub its_face : (Section b index s × (NGON ≡ element_type_of (tree_of b) s)) × (in_range (tree_of b) s f ≡ true)
  its_face =
      let u = section_by a i z s face_inside (and_first (section_of (tree_of b) z s) _ of_type_lem) in
      let v = eqb-true (element_type_of (tree_of b) s) NGON (and_second (section_of (tree_of b) z s) _ of_type_lem) in
      ((u, sym v), and_second (section_of (tree_of b) z s && eqb (element_type_of (tree_of b) s) NGON) _ brings)

  pub its_columns : {j : ℕ} → j ≡ parents_of (tree_of b) s → j < node_count b → Columns b j (element_count (tree_of b) s)
  its_columns {j} q l =
      rw q (columns a z s face_inside (has_parents_is a z s face_inside ∙ and_both _ _ of_type_lem (sym (found_by b q refl) ∙ lt-ltb j (node_count b) l)))

-- 41, 54, or the two numbers
module _ (b : List ℕ) (z f : ℕ) where
  abbrev told : Answer FaceParents
  told =
      check 0 (41 unless face_of (tree_of b) z f ∷ 54 unless found (tree_of b) (parents_of (tree_of b) (section_with_face (tree_of b) z f)) ∷ [])
      gives stored_parents (tree_of b) (section_with_face (tree_of b) z f) f

  is-face : face_of (tree_of b) z f ≡ ltb (section_with_face (tree_of b) z f) (node_count b)
  unfolding face_of section_with_face tree_of
  is-face = some_seek (has_face (tree_of b) z f) (node_count b) 0 (node_count b) (omega arith)

  pub no_face : None ≡ if_below (node_count b) (section_with_face (tree_of b) z f) → rejected (rejection 41 0) ≡ told
  unfolding ◌gives◌
  no_face h = sym (then-off _ (broken 0 41 _ (is-face ∙ le-ltb (section_with_face (tree_of b) z f) (node_count b) (the_none (sym h)))))

  module _ {s : ℕ} (h : Some s ≡ if_below (node_count b) (section_with_face (tree_of b) z f)) {j : ℕ} (q : j ≡ parents_of (tree_of b) s)
      {n : ℕ} (m : n ≡ node_count b) where
    section-is : s ≡ section_with_face (tree_of b) z f
    section-is = (the_some (sym h)).0

    face : face_of (tree_of b) z f ≡ true
    face = is-face ∙ lt-ltb (section_with_face (tree_of b) z f) (node_count b) (the_some (sym h)).1

    has_array : found (tree_of b) (parents_of (tree_of b) (section_with_face (tree_of b) z f)) ≡ ltb j n
    has_array = sym (found_by b (q ∙ ap (parents_of (tree_of b)) section-is) m)

    pub no_array : n ≤ j → rejected (rejection 54 0) ≡ told
    unfolding ◌gives◌
    no_array l = sym (then-off _ (kept 0 41 _ face ∙ broken 0 54 _ (has_array ∙ le-ltb j n l)))

    pub both_told : j < n → answer (stored_parents (tree_of b) s f) ≡ told
    unfolding ◌gives◌
    both_told l =
        ap (λ (s : ℕ). answer (stored_parents (tree_of b) s f)) section-is
        ∙ sym (then-on _ (kept 0 41 _ face ∙ kept 0 54 _ (has_array ∙ lt-ltb j n l) ∙ no_rule 0))
