-- Parts of the uses matched one after the other, and one use.
use Prim.Native.Nat.{ℕ, ◌+◌, ◌*◌, ◌-◌, ◌/◌, ◌%◌, ◌≤◌, ◌<◌}
use mathlib.Core.Path.{◌≡◌, refl, sym, ap, ◌∙◌}
use mathlib.Core.Bool.{Bool, true, false, cond}
use mathlib.Core.List.{List, ◌∷◌}
use native.Mathlib.Omega.{arith}
use native.Mathlib.Decide.{ℕ_discrete, dec_lt}
use lib.Dec.{eqb, leb, ltb}
use lib.ListN.{length, get_or, set, length-set}
use lib.Seq.{get_or-set_same, get_or-set_other, drop-set-lt}
use borrow.Author.Tests.{eq-eqb, ne_eqb, leb-true}
use Rattle.model.specs.Lists.{every_from}
use Rattle.model.specs.Image.{tree_of, node_count}
use Rattle.model.specs.Given.{Accepted}
use Rattle.model.specs.Elements.{first_element, element_count, in_range, face_section, has_face}
use Rattle.model.specs.FaceUsage.{faces_in, face_count, face_place}
use Rattle.model.specs.ParentElements.{FaceParents, stored_parents, face_agrees, has_parents, section_agrees, all_agree}
use Rattle.model.proofs.Logic.{untrue, and_first, and_second, and_both, when}
use Rattle.model.proofs.Walks.{every_at, sum_part}
use Rattle.usage_bytes.specs.Marks.{after_use}
use Rattle.usage_bytes.specs.ParentMarks.{matched}
use Rattle.ranges.proofs.Cases.{both}
use Rattle.face_places.proofs.Accepted.{found-is, place_is}
use Rattle.agreement.specs.Matching.{settles, Matching, Signs, Matched, with_user}

-- nothing done, and two parts one after the other
pub signs-same : (faces : ℕ) (bytes : List ℕ) → Signs faces bytes bytes
signs-same faces bytes = record { long = refl; signs = λ p. refl; beyond = refl }

signs-then : {faces : ℕ} {x y w : List ℕ} → Signs faces x y → Signs faces y w → Signs faces x w
signs-then a c = record { long = c.long ∙ a.long; signs = λ p. c.signs p ∙ a.signs p; beyond = c.beyond ∙ a.beyond }

module _ {b : List ℕ} {z : ℕ} where
  pub matching_same : {left other : ℕ → List ℕ} {bytes : List ℕ} → ((f : ℕ) → left f ≡ other f) → Matching b z left bytes → Matching b z other bytes
  matching_same e m = record { each = λ s f h p r. m.each s f h p r ∙ ap (settles _ _) (e f) }

  pub matched-none : {left : ℕ → List ℕ} {bytes : List ℕ} → Matched b z left left bytes true bytes
  matched-none = record { kept = signs-same _ _; on = λ e m. m; off = λ e. untrue (sym e) }

  pub matched-then : {all mid left : ℕ → List ℕ} {bytes now after : List ℕ} {r : Bool} → Matched b z all mid bytes true now → Matched b z mid left now r after
      → Matched b z all left bytes r after
  matched-then m n = record { kept = signs-then m.kept n.kept; on = λ e x. n.on e (m.on refl x); off = λ e x. n.off e (m.on refl x) }

  -- the same cells to come, told otherwise
  pub matched-same : {all all' left left' : ℕ → List ℕ} {bytes after : List ℕ} {r : Bool} → ((f : ℕ) → all' f ≡ all f) → ((f : ℕ) → left f ≡ left' f)
      → Matched b z all left bytes r after → Matched b z all' left' bytes r after
  matched-same d e m =
      record { kept = m.kept; on = λ q x. matching_same e (m.on q (matching_same d x)); off = λ q x. m.off q (matching_same d x) }

  -- an answer false says nothing of the cells to come
  pub matched_stop : {all left other : ℕ → List ℕ} {bytes after : List ℕ} {r : Bool} → r ≡ false → Matched b z all left bytes r after → Matched b z all other bytes false after
  matched_stop e m = record { kept = m.kept; on = λ q. untrue q; off = λ q x. m.off e x }

-- in an accepted image
module _ {b : List ℕ} (a : Accepted b) (z : ℕ) where
  -- a face of a section that has the array
  pub has-face : (s f : ℕ) → has_parents (tree_of b) z s ≡ true → in_range (tree_of b) s f ≡ true → has_face (tree_of b) z f s ≡ true
  unfolding has_parents has_face
  has-face s f p r = and_both _ _ (and_first (face_section (tree_of b) z s) _ p) r

  -- one that does not agree
  not_all : (s f : ℕ) → s < node_count b → has_parents (tree_of b) z s ≡ true → in_range (tree_of b) s f ≡ true → face_agrees (tree_of b) z s f ≡ false
      → all_agree (tree_of b) z ≡ false
  unfolding all_agree section_agrees in_range element_count tree_of
  not_all s f h p r e = both _ _ (λ y. sym e ∙ agrees y) untrue
    where
      agrees : every_from (section_agrees (tree_of b) z) (node_count b) 0 ≡ true → face_agrees (tree_of b) z s f ≡ true
      agrees y =
          let l = leb-true _ f (and_first (leb (first_element (tree_of b) s) f) _ r) in
          let u = leb-true f _ (and_second (leb (first_element (tree_of b) s) f) _ r) in
          every_at (face_agrees (tree_of b) z s) (element_count (tree_of b) s) (first_element (tree_of b) s) f
          (when _ _ (every_at (section_agrees (tree_of b) z) (node_count b) 0 s y (omega arith) (omega arith)) p) l (omega arith)

  -- faces with one place are one face
  pub inside : (s f : ℕ) → has_face (tree_of b) z f s ≡ true → (first_element (tree_of b) s ≤ f) × (f - first_element (tree_of b) s < faces_in (tree_of b) z s)
  unfolding has_face in_range faces_in element_count
  inside s f x =
      let r = and_second (face_section (tree_of b) z s) _ x in
      let l = leb-true _ f (and_first (leb (first_element (tree_of b) s) f) _ r) in
      let u = leb-true f _ (and_second (leb (first_element (tree_of b) s) f) _ r) in
      (l, rw (and_first (face_section (tree_of b) z s) _ x) (omega arith))

  one_place : (s q f g : ℕ) → s < node_count b → q < node_count b → has_face (tree_of b) z f s ≡ true → has_face (tree_of b) z g q ≡ true
      → face_place (tree_of b) z f ≡ face_place (tree_of b) z g → f ≡ g
  one_place s q f g h l x y e =
      let p = (place_is a z s f h x).0 in
      let w = (place_is a z q g l y).0 in
      let i = inside s f x in
      let j = inside q g y in
      elim (ℕ_discrete s q) [
        | yes r ↦ let u = rw r at p in let v = rw r at i.0 in omega (arith, j.0)
        | no n ↦ elim (dec_lt s q) [
          | yes r ↦ let u = sum_part (faces_in (tree_of b) z) s q r in absurd (omega (arith, i.1))
          | no r ↦ let u = sum_part (faces_in (tree_of b) z) q s (omega arith) in absurd (omega (arith, j.1))
        ]
      ]

  -- a face of one section
  one-section : (s q g : ℕ) → s < node_count b → q < node_count b → has_face (tree_of b) z g s ≡ true → has_face (tree_of b) z g q ≡ true → q ≡ s
  one-section s q g h l x y = sym (found-is a z q g l y) ∙ found-is a z s g h x

  -- one use of face g, of section s, by cell c
  module _ (s g c : ℕ) (h : s < node_count b) (x : has_face (tree_of b) z g s ≡ true) (bytes : List ℕ) (left : ℕ → List ℕ) where
    -- its section has no parents: nothing is asked of it
    pub use_unasked : has_parents (tree_of b) z s ≡ false → Matched b z (with_user g c left) left bytes true bytes
    use_unasked e =
        record {
          kept = signs-same _ _;
          on = λ q m. record { each = λ r f l p i. m.each r f l p i ∙ ap (settles _ _) (other r f l p i) };
          off = λ q. untrue (sym q);
        }
      where
        other : (r f : ℕ) → r < node_count b → has_parents (tree_of b) z r ≡ true → in_range (tree_of b) r f ≡ true → with_user g c left f ≡ left f
        other r f l p i =
            elim (ℕ_discrete g f) [
              | yes y ↦
                  let w = one-section s r g h l x (rw y (has-face r f p i)) in untrue (sym e ∙ ap (has_parents (tree_of b) z) (sym w) ∙ p)
              | no n ↦ rw (ne_eqb g f n)
            ]

    abbrev stored : FaceParents
    stored = stored_parents (tree_of b) s g

    abbrev place : ℕ
    place = face_place (tree_of b) z g

    abbrev more : ℕ
    more = matched (eqb stored.first c) (eqb stored.second c) (get_or bytes place 0 / 4)

    -- it has: the use is matched with a parent that is free, or with none
    module _ (e : has_parents (tree_of b) z s ≡ true) (room : place < length bytes) where
      kept : (r : Bool) → Signs (face_count (tree_of b) z) bytes (after_use r (4 * more) place bytes)
      kept false = signs-same _ _
      kept true =
          record {
            long = length-set bytes place _;
            signs =
                λ j.
                elim (ℕ_discrete j place) [
                  | yes y ↦ rw (y, get_or-set_same bytes place (get_or bytes place 0 + 4 * more) 0 room) (omega arith)
                  | no n ↦ ap (λ (v : ℕ). v % 4) (get_or-set_other bytes place j _ 0 n)
                ];
            beyond = drop-set-lt (face_count (tree_of b) z) bytes place _ (place_is a z s g h x).1;
          }

      in_range_lem : in_range (tree_of b) s g ≡ true
      unfolding has_face
      in_range_lem = and_second (face_section (tree_of b) z s) _ x

      -- what the use settles of its face
      settled : Matching b z (with_user g c left) bytes
          → face_agrees (tree_of b) z s g ≡ cond (ltb 0 more) (settles stored (get_or bytes place 0 / 4 + more) (left g)) false
      unfolding settles
      settled m =
          let w : with_user g c left g ≡ c ∷ left g = rw (eq-eqb g g refl) in
          m.each s g h e in_range_lem ∙ ap (settles stored (get_or bytes place 0 / 4)) w

      on : ltb 0 more ≡ true → Matching b z (with_user g c left) bytes → Matching b z left (after_use true (4 * more) place bytes)
      on y m =
          record {
            each =
                λ r f l p i.
                elim (ℕ_discrete g f) [
                  | yes v ↦ rw (one-section s r g h l x (rw v (has-face r f p i)), ← v) here
                  | no n ↦
                      let q : with_user g c left f ≡ left f = rw (ne_eqb g f n) in
                      let d = get_or-set_other bytes place (face_place (tree_of b) z f) (get_or bytes place 0 + 4 * more) 0
                      (λ v. n (one_place s r g f h l x (has-face r f p i) (sym v))) in
                      m.each r f l p i ∙ ap (settles _ _) q ∙ ap (λ (v : ℕ). settles (stored_parents (tree_of b) r f) (v / 4) (left f)) (sym d)
                ];
          }
        where
          here : face_agrees (tree_of b) z s g ≡ settles stored (get_or (set bytes place (get_or bytes place 0 + 4 * more)) place 0 / 4) (left g)
          here =
              let d : (get_or bytes place 0 + 4 * more) / 4 ≡ get_or bytes place 0 / 4 + more = omega arith in
              settled m ∙ rw (y, get_or-set_same bytes place (get_or bytes place 0 + 4 * more) 0 room, d)

      pub use_asked : {r : Bool} → r ≡ ltb 0 more → {after : List ℕ} → after ≡ after_use r (4 * more) place bytes → Matched b z (with_user g c left) left bytes r after
      use_asked {r} q {after} w =
          record {
            kept = rw w (kept r);
            on = λ y m. rw (w ∙ ap (λ (v : Bool). after_use v (4 * more) place bytes) y) (on (sym q ∙ y) m);
            off =
                λ y m.
                not_all s g h e in_range_lem
                (settled m ∙ ap (λ (v : Bool). cond v (settles stored (get_or bytes place 0 / 4 + more) (left g)) false) (sym q ∙ y));
          }
