-- The arrays beside the entries: one section more; and what stands beside the entry of a face.
use Prim.Native.Nat.{ℕ, ◌+◌, ◌*◌, ◌≤◌, ◌<◌}
use mathlib.Core.Path.{◌≡◌, refl, sym, ap, ◌∙◌}
use mathlib.Core.Bool.{Bool, true, false, cond, ◌&&◌}
use mathlib.Core.List.{List}
use native.Mathlib.Omega.{arith}
use native.Mathlib.Decide.{ℕ_discrete}
use lib.ListN.{length, get_or, set, length-set}
use lib.Seq.{get_or-set_same, get_or-set_other}
use borrow.Author.Tests.{lt-ltb, le-ltb}
use Rattle.std.proofs.Common.{Option, Some, None}
use Rattle.std.specs.Bool.{then_some}
use Rattle.std.specs.Option.{is_some, unwrap_or}
use lib.Dec.{ltb}
use Rattle.model.specs.Found.{if_below}
use Rattle.model.proofs.Found.{the_none}
use Rattle.types.proofs.Missing.{there}
use Rattle.model.specs.Image.{Tree, tree_of, node_count, dimensions, number}
use Rattle.model.specs.Given.{Accepted}
use Rattle.model.specs.Containment.{found}
use Rattle.model.specs.Elements.{first_element, last_element, element_count, in_range, face_section, has_face, face_of, section_with_face, parents_of}
use Rattle.model.specs.ParentElements.{has_parents}
use Rattle.model.proofs.Logic.{untrue, and_first, and_both, and-false, between}
use Rattle.model.proofs.Walks.{some_by}
use Rattle.ranges.specs.Tables.{holds, Found}
use Rattle.face_places.proofs.Accepted.{face-ranged, apart, found-is}
use Rattle.face_places.proofs.Gathering.{At, face-there, face-found}
use Rattle.rows.specs.declared.Row.{Row}
use Rattle.face_parents.specs.Parents.{ParentRow}
use Rattle.face_parents.proofs.Columns.{columns}
use Rattle.agreement.specs.Arrays.{Arrays, InTables, StoresColumns, ArrayRow}

-- the number of a node, or the node count, as an Option
pub read_back : (n a : ℕ) → then_some (ltb a n) a ≡ if_below n a
unfolding if_below
read_back n a = by_test (ltb a n)
  where
    by_test : (c : Bool) → then_some c a ≡ cond c (Some a) None
    by_test true = refl
    by_test false = refl

pub read_as : (n a : ℕ) (o : Option ℕ) → a ≤ n → o ≡ if_below n a → unwrap_or o n ≡ a
read_as n a None h e = omega (arith, the_none (sym e))
read_as n a (Some j) h e = (there e).0

pub no_arrays : (t : Tree) (z n : ℕ) (firsts arrays : List ℕ) → n ≤ length arrays → Arrays t z 0 n firsts arrays
no_arrays t z n firsts arrays h = record { room = h; each = λ s j l. absurd (omega arith) }

module _ {b : List ℕ} (a : Accepted b) {z s n : ℕ} {firsts reach arrays : List ℕ} (g : InTables b z firsts reach n)
    (r : Arrays (tree_of b) z s n firsts arrays) (h : s < node_count b) where
  -- a node that brings no faces
  pub arrays_same : face_section (tree_of b) z s ≡ false → Arrays (tree_of b) z (s + 1) n firsts arrays
  arrays_same e =
      record {
        room = r.room;
        each = λ q j l f i p. elim (ℕ_discrete q s) [ yes y ↦ untrue (sym e ∙ rw (← y) f) | no d ↦ r.each q j (omega arith) f i p ];
      }

  -- a face section, whose first face was looked up
  module _ (e : face_section (tree_of b) z s ≡ true) {first : ℕ} (q : first ≡ first_element (tree_of b) s) where
    has_first : has_face (tree_of b) z first s ≡ true
    unfolding has_face in_range
    has_first = and_both _ _ e (between (first_element (tree_of b) s) first (last_element (tree_of b) s) (omega arith) (omega (arith, (face-ranged a z s h e).up)))

    is-face : face_of (tree_of b) z first ≡ true
    unfolding face_of tree_of
    is-face = some_by (has_face (tree_of b) z first) (node_count b) 0 s has_first (omega arith) (omega arith)

    -- an entry was found
    pub entry-there : (r : Option ℕ) → Found firsts reach n first first r → is_some r ≡ true
    entry-there r = face-there a g.1 _ r is-face

    module _ {j : ℕ} (o : (j < n) × (holds firsts reach first j ≡ true)) where
      at : At b z firsts g.0 n first j
      at = face-found a g.1 o

      own : get_or firsts j 0 ≡ first_element (tree_of b) s
      own = at.first-is ∙ ap (first_element (tree_of b)) (found-is a z s first h has_first)

      pub arrays_more : {x : ℕ} → x ≡ parents_of (tree_of b) s → Arrays (tree_of b) z (s + 1) n firsts (set arrays j x)
      arrays_more {x} p =
          record {
            room = rw (length-set arrays j x) r.room;
            each =
                λ i k l f m w.
                elim (ℕ_discrete i s) [
                  | yes y ↦
                      let u = g.1.distinct k j m o.0 (w ∙ ap (first_element (tree_of b)) y ∙ sym own) in
                      rw (u, get_or-set_same arrays j x 0 (omega (arith, o.0, r.room))) (p ∙ ap (parents_of (tree_of b)) (sym y))
                  | no d ↦ get_or-set_other arrays j k x 0 (λ u. d (other i k l f w u)) ∙ r.each i k (omega arith) f m w
                ];
          }
        where
          other : (i k : ℕ) → i < s + 1 → face_section (tree_of b) z i ≡ true → get_or firsts k 0 ≡ first_element (tree_of b) i → k ≡ j → i ≡ s
          other i k l f w u =
              let v : first_element (tree_of b) i ≡ first_element (tree_of b) s = sym w ∙ ap (λ (y : ℕ). get_or firsts y 0) u ∙ own in
              let c = (face-ranged a z i (omega arith) f).up in
              let d = (face-ranged a z s h e).up in
              apart a z i s (omega arith) h f e (omega arith) (omega arith)

-- the section of a face that an entry holds
pub face-section : {b : List ℕ} {z n f j : ℕ} {firsts places : List ℕ} → At b z firsts places n f j → face_section (tree_of b) z (section_with_face (tree_of b) z f) ≡ true
unfolding has_face
face-section {b} {z} {n} {f} at = and_first (face_section (tree_of b) z (section_with_face (tree_of b) z f)) _ at.has

-- all of them: beside the entry of a face stands the ParentElements of its section
module _ {b : List ℕ} (a : Accepted b) {z n : ℕ} {firsts arrays : List ℕ} (r : Arrays (tree_of b) z (node_count b) n firsts arrays)
    {places : List ℕ} {f j : ℕ} (at : At b z firsts places n f j) where
  abbrev s : ℕ
  s = section_with_face (tree_of b) z f

  pub array_is : get_or arrays j 0 ≡ parents_of (tree_of b) s
  array_is = r.each s j at.known (face-section at) at.inside at.first-is

  -- where there is one, its section has the array, and it stores two columns
  pub array_has : get_or arrays j 0 < node_count b → has_parents (tree_of b) z s ≡ true
  unfolding has_parents found tree_of
  array_has l = and_both _ _ (face-section at) (lt-ltb _ _ (rw array_is at l))

  pub array_none : node_count b ≤ get_or arrays j 0 → has_parents (tree_of b) z s ≡ false
  unfolding has_parents found tree_of
  array_none l = ap (λ (x : Bool). face_section (tree_of b) z s && x) (le-ltb _ (node_count b) (rw array_is at l)) ∙ and-false (face_section (tree_of b) z s)

  pub array_stores : StoresColumns b (get_or arrays j 0)
  array_stores l =
      let c = columns a z s at.known (array_has l) in rw (array_is, c.sizes) c

  pub face-row : {row : Row} → ArrayRow b (get_or arrays j 0) row → ParentRow b (parents_of (tree_of b) s) (element_count (tree_of b) s) row
  face-row w =
      let e = array_is in
      record {
        numbers = w.numbers;
        none = λ l. w.none (rw e l);
        long =
            λ l.
            let c = columns a z s at.known (array_has (rw e l)) in
            let q : get_or (dimensions (tree_of b) (get_or arrays j 0)) 0 0 ≡ element_count (tree_of b) s = rw (e, c.sizes) in
            w.long (rw e l) ∙ ap (λ (x : ℕ). x * 2) q;
        stored = λ k l. ap (λ (x : ℕ). number (tree_of b) x k) (sym e) ∙ w.stored k l;
      }
