-- The use that an entry makes: the parents of its face, as they were read, and the byte that tells which of them are matched.
use Prim.Native.Nat.{ℕ, ◌+◌, ◌*◌, ◌-◌, ◌/◌, ◌≤◌, ◌<◌}
use mathlib.Core.Path.{◌≡◌, sym, ◌∙◌}
use mathlib.Core.Bool.{Bool, true, false}
use mathlib.Core.List.{List}
use native.Mathlib.Omega.{arith}
use native.Mathlib.Decide.{dec_lt}
use lib.Dec.{eqb, ltb}
use lib.ListN.{length, get_or}
use borrow.Author.Tests.{ltb-true, lt-ltb}
use Rattle.model.specs.Image.{tree_of, node_count}
use Rattle.model.specs.Given.{Accepted}
use Rattle.model.specs.Containment.{found}
use Rattle.model.specs.Elements.{first_element, element_count, face_section, section_with_face, parents_of, first_parent, second_parent}
use Rattle.model.specs.FaceUsage.{face_count, face_place}
use Rattle.model.specs.Corner.{number_at}
use Rattle.model.specs.ParentElements.{stored_parents, has_parents}
use Rattle.model.proofs.Logic.{untrue, and_second, and_both}
use Rattle.ranges.proofs.Cases.{both}
use Rattle.rows.specs.declared.Row.{Row}
use Rattle.ranges.specs.Tables.{holds}
use Rattle.usage_bytes.specs.Marks.{after_use}
use Rattle.usage_bytes.specs.ParentMarks.{matched}
use Rattle.face_places.proofs.Accepted.{faces_are}
use Rattle.face_places.proofs.Gathering.{At, face-found}
use Rattle.face_uses.specs.declared.uses.Faces.{Faces}
use Rattle.face_uses.specs.Uses.{Tables}
use Rattle.face_parents.specs.Parents.{ParentRow}
use Rattle.agreement.specs.Matching.{Matched, with_user}
use Rattle.agreement.proofs.ArrayLaws.{face-section}
use Rattle.agreement.proofs.Steps.{inside, use_unasked, use_asked}

-- the entry that holds a face
pub found_at : {b firsts reach places : List ℕ} {faces : Faces} {o f j : ℕ} → Tables b faces firsts reach places o
    → (j < faces.count) × (holds firsts reach f j ≡ true) → At b faces.zone firsts places faces.count f j
found_at t w = face-found t.accepted t.ranges w

module _ {b : List ℕ} (a : Accepted b) {z n f j : ℕ} {firsts places : List ℕ} (at : At b z firsts places n f j) where
  abbrev s : ℕ
  s = section_with_face (tree_of b) z f

  near : f - get_or firsts j 0 < element_count (tree_of b) s
  near = let i = inside a z s f at.has in omega (arith, i.1, faces_are a z s at.known (face-section at), at.first-is)

  module _ {array : Row} (r : ParentRow b (parents_of (tree_of b) s) (element_count (tree_of b) s) array) where
    -- no number: no parents
    pub unasked : array.n ≡ 0 → (cell : ℕ) (bytes : List ℕ) (left : ℕ → List ℕ) → Matched b z (with_user f cell left) left bytes true bytes
    unfolding has_parents found tree_of
    unasked e cell bytes left = use_unasked a z s f cell at.known at.has bytes left (both _ _ none untrue)
      where
        none : has_parents (tree_of b) z s ≡ true → false ≡ true
        none h = absurd (omega (arith, e, near, r.long (ltb-true _ _ (and_second (face_section (tree_of b) z s) _ h))))

    -- the numbers of both columns
    module _ (e : array.n ≡ 0 → ⊥) where
      there : parents_of (tree_of b) s < node_count b
      there = elim (dec_lt (parents_of (tree_of b) s) (node_count b)) [ yes l ↦ l | no l ↦ absurd (e (r.none (omega arith))) ]

      pub first-inside : f - get_or firsts j 0 < array.n
      first-inside = omega (arith, near, r.long there)

      half : array.n / 2 ≡ element_count (tree_of b) s
      half = omega (arith, r.long there)

      pub second-inside : array.n / 2 + (f - get_or firsts j 0) < array.n
      second-inside = omega (arith, near, r.long there, half)

      pub matched_use : {p x y : ℕ} (cell : ℕ) (bytes : List ℕ) {t : Bool} {after : List ℕ} → p ≡ face_place (tree_of b) z f
          → x ≡ number_at b array.at array.width (f - get_or firsts j 0) → y ≡ number_at b array.at array.width (array.n / 2 + (f - get_or firsts j 0))
          → face_count (tree_of b) z ≤ length bytes
          → (t ≡ ltb 0 (matched (eqb x cell) (eqb y cell) (get_or bytes p 0 / 4))) × (after ≡ after_use t (4 * matched (eqb x cell) (eqb y cell) (get_or bytes p 0 / 4)) p bytes)
          → (left : ℕ → List ℕ) → Matched b z (with_user f cell left) left bytes t after
      unfolding has_parents found tree_of stored_parents first_parent second_parent
      matched_use {p} {x} {y} cell bytes q u v room w left =
          let c : x ≡ first_parent (tree_of b) s (f - first_element (tree_of b) s) = u ∙ sym (r.stored _ first-inside) ∙ rw at.first-is in
          let d : y ≡ second_parent (tree_of b) s (f - first_element (tree_of b) s) = v ∙ sym (r.stored _ second-inside) ∙ rw (half, at.first-is) in
          use_asked a z s f cell at.known at.has bytes left (and_both _ _ (face-section at) (lt-ltb _ _ there)) (omega (arith, at.below))
          (rw (← c, ← d, ← q) w.0) (rw (← c, ← d, ← q) w.1)
