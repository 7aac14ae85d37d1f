-- Face usage of an accepted image: positive plus negative uses are the zone's type 23 connectivity lengths summed.
-- Each entry means a face of the zone (rules 35 to 37), so it has a place below F, and its use sets one bit that was free.
use Prim.Native.Nat.{ℕ, zero, suc, ◌+◌, ◌-◌, ◌/◌, ◌%◌, ◌≤◌, ◌<◌}
use mathlib.Core.Path.{◌≡◌, refl, ◌∙◌}
use mathlib.Core.Bool.{Bool, true, false, cond, ◌&&◌}
use mathlib.Core.List.{List, [], ◌∷◌}
use native.Mathlib.Omega.{arith}
use native.Mathlib.Decide.{ℕ_discrete}
use native.Mathlib.Nat.{add-zero, zero-add}
use lib.ListN.{length, get_or, set, replicate, length-set, length-replicate}
use lib.Seq.{get_or-set_same, get_or-set_other, set_out}
use lib.Dec.{eqb, leb, ltb}
use borrow.Author.Tests.{eqb-true, leb-true, ltb-true, ltb-false}
use Rattle.model.specs.Lists.{sum_before, seek_from}
use Rattle.model.specs.Bytes.{negative}
use Rattle.model.specs.Rules.{rejected, answer, passed, repetition, ◌into◌}
use Rattle.model.specs.Image.{Tree, tree_of, node_count, parent, width}
use Rattle.model.specs.Containment.{section_of}
use Rattle.model.specs.Values.{connectivity_of}
use Rattle.model.specs.Elements.{NFACE, element_type_of, connectivity_length, first_element, last_element, element_count, in_range, face_section, has_face, face_of, section_with_face}
use Rattle.model.specs.Elements.{face_number, reference}
use Rattle.model.specs.FaceUsage.{faces_in, face_count, face_place, use_place, use_sign, unused, element_holding, use_entry, use_entries, uses_in, use_nodes, usage}
use Rattle.model.specs.FaceUsage.{positive_uses, negative_uses, cell_entries}
use Rattle.model.specs.Validation.{image_check}
use Rattle.model.proofs.Logic.{untrue, and_first, and_second}
use Rattle.model.proofs.Walks.{Some, some_at, seek_holds, seek_before, sum_part}
use Rattle.model.proofs.Passed.{refused, into-value}
use Rattle.model.proofs.InZone.{InZone, parts}
use Rattle.model.proofs.References.{reference-face}

-- a face of the zone has a place below F
place-below : (t : Tree) (z f : ℕ) → face_of t z f ≡ true → face_place t z f < face_count t z
unfolding face_of section_with_face face_place face_count faces_in has_face in_range element_count
place-below t z f e = omega (arith, sum_part (faces_in t z) s t.count inside, size)
  where
    some : Some (has_face t z f) t.count 0
    some = some_at (has_face t z f) t.count 0 e

    s : ℕ
    s = seek_from (has_face t z f) t.count 0

    inside : s < t.count
    inside = let h = seek_before (has_face t z f) t.count 0 some.at some.holds (omega arith) some.to in omega (arith, some.to)

    holds : (face_section t z s && in_range t s f) ≡ true
    holds = seek_holds (has_face t z f) t.count 0 (omega (arith, inside))

    size : f - first_element t s < faces_in t z s
    size =
        rw (and_first (face_section t z s) _ holds)
        (let r = and_second (face_section t z s) (in_range t s f) holds in
        let a = leb-true (first_element t s) f (and_first (leb (first_element t s) f) _ r) in
        let b = leb-true f (last_element t s) (and_second (leb (first_element t s) f) _ r) in
        omega arith)

-- the uses that one byte tells of, and all bytes
bits : ℕ → ℕ
bits x = x % 2 + x / 2 % 2

tally : List ℕ → ℕ
tally bytes = positive_uses bytes + negative_uses bytes

tally_set : (l : List ℕ) (i y : ℕ) → i < length l → tally (set l i y) + bits (get_or l i 0) ≡ tally l + bits y
unfolding tally bits positive_uses negative_uses
tally_set [] i y h = absurd (omega arith)
tally_set (x ∷ l) zero y h = omega arith
tally_set (x ∷ l) (suc i) y h = let e = tally_set l i y (omega arith) in omega arith

tally_zero : (n : ℕ) → tally (replicate n 0) ≡ 0
unfolding tally positive_uses negative_uses
tally_zero zero = refl
tally_zero (suc n) = let e = tally_zero n in omega arith

-- the sign of a use, and its bit
sign : Bool → ℕ
sign minus = cond minus 2 1

-- a free sign: its bit is set, and no other
one_more : (minus : Bool) (x : ℕ) → x < 4 → unused (sign minus) x ≡ true → (x + sign minus < 4) × (bits (x + sign minus) ≡ suc (bits x))
unfolding bits unused sign
one_more false zero h e = (omega arith, refl)
one_more false (suc zero) h e = untrue e
one_more false (suc (suc zero)) h e = (omega arith, refl)
one_more false (suc (suc (suc zero))) h e = untrue e
one_more false (suc (suc (suc (suc x)))) h e = absurd (omega arith)
one_more true zero h e = (omega arith, refl)
one_more true (suc zero) h e = (omega arith, refl)
one_more true (suc (suc zero)) h e = untrue e
one_more true (suc (suc (suc zero))) h e = untrue e
one_more true (suc (suc (suc (suc x)))) h e = absurd (omega arith)

-- F bytes, each below 4
record Book (faces : ℕ) (bytes : List ℕ) : Type 0 where
  pub full : length bytes ≡ faces
  pub small : (i : ℕ) → get_or bytes i 0 < 4

set-small : (l : List ℕ) (i y : ℕ) → ((j : ℕ) → get_or l j 0 < 4) → y < 4 → (j : ℕ) → get_or (set l i y) j 0 < 4
set-small l i y h s j =
    elim (ℕ_discrete j i) [
      | yes q ↦ by_room (ltb i (length l)) refl q
      | no n ↦ rw (get_or-set_other l i j y 0 n) (h j)
    ]
  where
    by_room : (t : Bool) → ltb i (length l) ≡ t → j ≡ i → get_or (set l i y) j 0 < 4
    by_room true e q = rw (q, get_or-set_same l i y 0 (ltb-true i (length l) e)) s
    by_room false e q = rw (set_out l i y (ltb-false i (length l) e)) (h j)

-- what a run of uses does to the bytes: n more uses
record Used (faces n : ℕ) (before after : List ℕ) : Type 0 where
  pub booked : Book faces after
  pub more : tally after ≡ tally before + n

module _ (t : Tree) (faces : ℕ) where
  use_entry_lem : (s k : ℕ) {bytes after : List ℕ} → Book faces bytes → use_place t s k < faces → use_entry t s k bytes ≡ answer after → Used faces 1 bytes after
  unfolding use_entry use_sign sign
  use_entry_lem s k {bytes} {after} b h e = by_test (unused (use_sign t s k) (get_or bytes (use_place t s k) 0)) refl e
    where
      p : ℕ
      p = use_place t s k

      minus : Bool
      minus = negative (width t (connectivity_of t s)) (reference t s k)

      by_test : (u : Bool) → unused (cond minus 2 1) (get_or bytes p 0) ≡ u
          → cond u (answer (set bytes p (get_or bytes p 0 + cond minus 2 1))) (rejected (repetition s (element_holding t s k))) ≡ answer after
          → Used faces 1 bytes after
      by_test true f g =
          let x = get_or bytes p 0 in
          let m = one_more minus x (b.small p) f in
          let q : set bytes p (x + cond minus 2 1) ≡ after = cc in
          let l : p < length bytes = rw b.full h in
          rw (← q)
          (record {
            booked = record { full = length-set bytes p _ ∙ b.full; small = set-small bytes p (x + cond minus 2 1) b.small m.0 };
            more = let c = tally_set bytes p (x + cond minus 2 1) l in omega (arith, m.1);
          })
      by_test false f g = refused g

  use_entries_lem : (s n k : ℕ) {bytes after : List ℕ} → Book faces bytes → ((j : ℕ) → k ≤ j → j < k + n → use_place t s j < faces)
      → use_entries t s n k bytes ≡ answer after → Used faces n bytes after
  unfolding use_entries ◌into◌
  use_entries_lem s zero k {bytes} {after} b h e = let q : bytes ≡ after = cc in rw (← q) (record { booked = b; more = omega arith })
  use_entries_lem s (suc n) k {bytes} {after} b h e =
      let v = into-value (use_entry t s k bytes) (λ later. use_entries t s n (suc k) later) e in
      let one = use_entry_lem s k b (h k (omega arith) (omega arith)) v.1 in
      let rest = use_entries_lem s n (suc k) one.booked (λ j l m. h j (omega arith) (omega arith)) v.2 in
      record { booked = rest.booked; more = omega (arith, one.more, rest.more) }

  use_nodes_lem : (z n s : ℕ) {bytes after : List ℕ} → Book faces bytes → ((i j : ℕ) → s ≤ i → i < s + n → j < uses_in t z i → use_place t i j < faces)
      → use_nodes t z n s bytes ≡ answer after → Book faces after × (tally after + sum_before (uses_in t z) s ≡ tally bytes + sum_before (uses_in t z) (s + n))
  unfolding use_nodes sum_before
  use_nodes_lem z zero s {bytes} {after} b h e = let q : bytes ≡ after = cc in rw (← q) (b, rw add-zero)
  use_nodes_lem z (suc n) s {bytes} {after} b h e =
      let v = into-value (use_entries t s (uses_in t z s) 0 bytes) (λ later. use_nodes t z n (suc s) later) e in
      let one = use_entries_lem s (uses_in t z s) 0 b (λ j l m. h s j (omega arith) (omega arith) (omega arith)) v.1 in
      let rest = use_nodes_lem z n (suc s) one.booked (λ i j l m. h i j (omega arith) (omega arith)) v.2 in
      let q : s + suc n ≡ suc s + n = omega arith in
      (rest.0, rw q (omega (arith, one.more, rest.1)))

zeros : (n i : ℕ) → get_or (replicate n 0) i 0 < 4
zeros zero i = omega arith
zeros (suc n) zero = omega arith
zeros (suc n) (suc i) = zeros n i

module _ (b : List ℕ) (yes : image_check b ≡ passed) (z : ℕ) where
  -- an entry of a type 23 section means a face of the zone
  entry-below : (s k : ℕ) → s < node_count b → k < uses_in (tree_of b) z s → use_place (tree_of b) s k < face_count (tree_of b) z
  unfolding uses_in use_place
  entry-below s k l h = by_test (section_of t z s && eqb (element_type_of t s) NFACE) refl h
    where
      t : Tree
      t = tree_of b

      by_test : (u : Bool) → (section_of t z s && eqb (element_type_of t s) NFACE) ≡ u → k < cond u (connectivity_length t s) 0
          → face_place t (parent t s) (face_number t s k) < face_count t z
      by_test true e m =
          let a : InZone b z s = record { accepted = yes; listed = l; is-section = and_first (section_of t z s) _ e } in
          rw (parts a).parent_is (place-below t z (face_number t s k) (reference-face a (eqb-true _ _ (and_second (section_of t z s) _ e)) k m))
      by_test false e m = absurd (omega arith)

  none_yet : Book (face_count (tree_of b) z) (replicate (face_count (tree_of b) z) 0)
  none_yet = record { full = length-replicate _ 0; small = zeros (face_count (tree_of b) z) }

  -- no byte tells more than the two signs
  pub usage-small : {bytes : List ℕ} → usage (tree_of b) z ≡ answer bytes → (i : ℕ) → get_or bytes i 0 < 4
  unfolding usage tree_of
  usage-small e = (use_nodes_lem (tree_of b) (face_count (tree_of b) z) z (node_count b) 0 none_yet (λ s k l m. entry-below s k (omega arith)) e).0.small

  pub all_uses : {bytes : List ℕ} → usage (tree_of b) z ≡ answer bytes → positive_uses bytes + negative_uses bytes ≡ cell_entries (tree_of b) z
  unfolding usage tree_of cell_entries tally sum_before
  all_uses e =
      let u = use_nodes_lem (tree_of b) (face_count (tree_of b) z) z (node_count b) 0 none_yet (λ s k l m. entry-below s k (omega arith)) e in
      omega (arith, rw zero-add at u.1, tally_zero (face_count (tree_of b) z))
