-- After all uses a section agrees where the parents of each of its faces are matched.
use Prim.Native.Nat.{ℕ, zero, suc, ◌+◌, ◌*◌, ◌-◌, ◌≤◌, ◌<◌}
use mathlib.Core.Path.{◌≡◌, refl, sym, ap, ◌∙◌}
use mathlib.Core.Bool.{Bool, true, false, cond, ◌&&◌}
use mathlib.Core.List.{List, []}
use native.Mathlib.Omega.{arith}
use native.Mathlib.Decide.{dec_lt}
use lib.Dec.{eqb}
use borrow.Author.Tests.{lt-ltb, le-ltb, eqb-true}
use Rattle.model.specs.Lists.{◌⊃◌, every_from, sum_before}
use Rattle.model.specs.Image.{tree_of, node_count, number}
use Rattle.model.specs.Given.{Accepted}
use Rattle.model.specs.Containment.{section_of, found, Elements}
use Rattle.model.specs.Elements.{NGON, element_type_of, first_element, last_element, element_count, in_range, face_section, has_face, parents_of, second_parent}
use Rattle.model.specs.FaceUsage.{faces_in, face_count, face_place}
use Rattle.model.specs.Corner.{number_at}
use Rattle.model.specs.ParentElements.{stored_parents, face_agrees, has_parents, section_agrees}
use Rattle.model.proofs.Logic.{and_first, and_second, and_both, and-false, between}
use Rattle.model.proofs.Walks.{sum_part}
use Rattle.rows.specs.declared.Row.{Row}
use Rattle.index.specs.Index.{Index, kind}
use Rattle.face_places.proofs.Accepted.{section_by, section-kind, face-section-is, face-ranged, faces_are, place_is}
use Rattle.face_parents.proofs.Columns.{columns}
use Rattle.agreement.specs.Arrays.{StoresColumns, ArrayRow}
use Rattle.agreement.specs.Matching.{settles, complete_at, Matching}

every_shift : (p q : ℕ → Bool) (a k i : ℕ) → ((j : ℕ) → i ≤ j → j < i + k → q j ≡ p (a + j)) → every_from q k i ≡ every_from p k (a + i)
unfolding every_from
every_shift p q a zero i e = refl
every_shift p q a (suc k) i e =
    let s : suc (a + i) ≡ a + suc i = omega arith in
    rw (e i (omega arith) (omega arith), s, every_shift p q a k (suc i) (λ j l h. e j (omega arith) (omega arith)))

module _ {b : List ℕ} (a : Accepted b) (z s : ℕ) (h : s < node_count b) where
  -- a node that brings no faces, or has no parents, is not asked
  pub unasked : has_parents (tree_of b) z s ≡ false → section_agrees (tree_of b) z s ≡ true
  unfolding section_agrees ◌⊃◌
  unasked e = rw e

  no_faces : faces_in (tree_of b) z s ≡ 0 → face_section (tree_of b) z s ≡ false
  unfolding faces_in element_count
  no_faces e = by_test (face_section (tree_of b) z s) e
    where
      by_test : (u : Bool) → cond u (element_count (tree_of b) s) 0 ≡ 0 → u ≡ false
      by_test true q = absurd (omega arith)
      by_test false q = refl

  pub no_parents : faces_in (tree_of b) z s ≡ 0 → has_parents (tree_of b) z s ≡ false
  unfolding has_parents
  no_parents e = rw (no_faces e)

  -- one that brings some
  module _ (m : faces_in (tree_of b) z s ≡ 0 → ⊥) where
    pub brings : face_section (tree_of b) z s ≡ true
    unfolding faces_in
    brings = by_test (face_section (tree_of b) z s) m
      where
        by_test : (u : Bool) → (cond u (element_count (tree_of b) s) 0 ≡ 0 → ⊥) → u ≡ true
        by_test true q = refl
        by_test false q = absurd (q refl)

    is-section : (section_of (tree_of b) z s && eqb (element_type_of (tree_of b) s) NGON) ≡ true
    is-section = sym (face-section-is a z s h) ∙ brings

    pub section-type : NGON ≡ element_type_of (tree_of b) s
    section-type = sym (eqb-true _ _ (and_second (section_of (tree_of b) z s) _ is-section))

    pub section-elements : {index : List ℕ} → Index b index → kind (tree_of b) s ≡ Elements
    section-elements i = section-kind (section_by a i z s h (and_first (section_of (tree_of b) z s) _ is-section))

    pub count-is : faces_in (tree_of b) z s ≡ element_count (tree_of b) s
    count-is = faces_are a z s h brings

    there : parents_of (tree_of b) s < node_count b → has_parents (tree_of b) z s ≡ true
    unfolding has_parents found tree_of
    there l = and_both _ _ brings (lt-ltb _ _ l)

    pub stores : StoresColumns b (parents_of (tree_of b) s)
    stores l = let c = columns a z s h (there l) in rw c.sizes c

    -- its parents, as a row
    module _ {row : Row} (r : ArrayRow b (parents_of (tree_of b) s) row) where
      long : parents_of (tree_of b) s < node_count b → row.n ≡ element_count (tree_of b) s * 2
      long l = let c = columns a z s h (there l) in rw c.sizes at (r.long l)

      pub not_there : row.n ≡ 0 → has_parents (tree_of b) z s ≡ false
      unfolding has_parents found tree_of
      not_there e =
          elim (dec_lt (parents_of (tree_of b) s) (node_count b)) [
            | yes l ↦ absurd (omega (arith, long l, e, count-is, m))
            | no l ↦ ap (λ (x : Bool). face_section (tree_of b) z s && x) (le-ltb _ (node_count b) (omega arith)) ∙ and-false (face_section (tree_of b) z s)
          ]

      module _ (e : row.n ≡ 0 → ⊥) where
        is_there : parents_of (tree_of b) s < node_count b
        is_there = elim (dec_lt (parents_of (tree_of b) s) (node_count b)) [ yes l ↦ l | no l ↦ absurd (e (r.none (omega arith))) ]

        pub two-each : row.n ≡ faces_in (tree_of b) z s * 2
        two-each = rw count-is (long is_there)

        pub faces_room : {place o : ℕ} → place ≡ sum_before (faces_in (tree_of b) z) s → face_count (tree_of b) z ≤ o → place + faces_in (tree_of b) z s ≤ o
        unfolding face_count tree_of
        faces_room p q = omega (arith, sum_part (faces_in (tree_of b) z) s (node_count b) h)

        in_range_lem : (d : ℕ) → d < element_count (tree_of b) s → in_range (tree_of b) s (first_element (tree_of b) s + d) ≡ true
        unfolding in_range element_count
        in_range_lem d l = between (first_element (tree_of b) s) _ (last_element (tree_of b) s) (omega arith) (omega (arith, (face-ranged a z s h brings).up))

        has : (d : ℕ) → d < element_count (tree_of b) s → has_face (tree_of b) z (first_element (tree_of b) s + d) s ≡ true
        unfolding has_face
        has d l = and_both _ _ brings (in_range_lem d l)

        -- face d of it
        face-is : {n place : ℕ} → n ≡ element_count (tree_of b) s → place ≡ sum_before (faces_in (tree_of b) z) s → {bytes : List ℕ}
            → Matching b z (λ (f : ℕ). []) bytes → (d : ℕ) → d < n → complete_at b row n place bytes d ≡ face_agrees (tree_of b) z s (first_element (tree_of b) s + d)
        unfolding complete_at settles stored_parents second_parent
        face-is {n} {place} p q {bytes} w d l =
            let t = tree_of b in
            let f = first_element t s + d in
            let g : f - first_element t s ≡ d = omega arith in
            let u : number_at b row.at row.width (n + d) ≡ number t (parents_of t s) (element_count t s + d) =
            rw p (sym (r.stored (element_count t s + d) (omega (arith, long is_there, p)))) in
            let v : place + d ≡ face_place t z f = rw (q, (place_is a z s f h (has d (omega arith))).0, g) in
            rw (u, v) (sym (w.each s f h (there is_there) (in_range_lem d (omega arith)) ∙ rw g))

        pub section-is : {n place : ℕ} → n ≡ faces_in (tree_of b) z s → place ≡ sum_before (faces_in (tree_of b) z) s → {bytes : List ℕ}
            → Matching b z (λ (f : ℕ). []) bytes → every_from (complete_at b row n place bytes) n 0 ≡ section_agrees (tree_of b) z s
        unfolding section_agrees ◌⊃◌
        section-is {n} {place} p q {bytes} w =
            let k : n ≡ element_count (tree_of b) s = p ∙ count-is in
            let o : first_element (tree_of b) s + 0 ≡ first_element (tree_of b) s = omega arith in
            every_shift (face_agrees (tree_of b) z s) (complete_at b row n place bytes) (first_element (tree_of b) s) n 0 (λ d _ l. face-is k q w d (omega arith))
            ∙ rw (there is_there, o, k)
