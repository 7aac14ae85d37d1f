-- The corner reader with the entry of a section of an accepted image: what it reads is what the section's nodes store, and 43 never comes.
use Prim.Native.Nat.{ℕ, suc, ◌+◌, ◌*◌, ◌-◌, ◌≤◌, ◌<◌}
use mathlib.Core.Path.{◌≡◌, refl, ap, ◌∙◌}
use mathlib.Core.Bool.{Bool, true, false, cond, not, ◌&&◌}
use mathlib.Core.List.{List, [], ◌∷◌}
use native.Mathlib.Omega.{arith}
use lib.Dec.{eqb, leb, ltb}
use borrow.Author.Tests.{le-leb, lt-ltb}
use Rattle.model.specs.Lists.{◌⊃◌}
use Rattle.model.specs.Bytes.{negative, below, signed, half}
use Rattle.model.specs.Rules.{rejected, answer, rejection, ◌unless◌, check, ◌then◌, ◌gives◌}
use Rattle.model.specs.Image.{tree_of, width, number}
use Rattle.model.specs.Values.{offsets_of, connectivity_of}
use Rattle.model.specs.Elements.{nodes_per, has_offsets, element_type_of, first_element, last_element, element_count, start_offset, reference, connectivity_length}
use Rattle.model.specs.Elements.{element_start, element_size, corner_reference, element_rules}
use Rattle.model.specs.Elements.{MIXED, start_of, own_type, size_of, corner_place, type_fits, layout_of}
use Rattle.model.specs.Sections.{entry, data_start}
use Rattle.model.specs.Corner.{in_entry, inside, number_at, layout_in, entry_start, entry_size, starts_before, readable, is_corner, corner_check, corner_number}
use Rattle.model.specs.Corner.{corner_answer}
use Rattle.model.specs.ElementCorners.{element_corners_check, element_corners_answer}
use Rattle.model.specs.OwnType.{own_type_check, own_type_answer}
use Rattle.model.proofs.Logic.{and_both, implied, between, not_between}
use Rattle.model.proofs.Accepted.{table-passed}
use Rattle.model.proofs.TwosComplement.{not_negative_lem, below-is}
use Rattle.model.proofs.Arrays.{indices_inside, indices_at}
use Rattle.model.proofs.InZone.{InZone, section-rule, connectivity, offsets, offsets-size, offsets-not-negative, span, type_fits_lem, corner-before-end}

module _ {b : List ℕ} {z s : ℕ} (a : InZone b z s) where
  -- where an element starts
  start_read : (k : ℕ) → k ≤ element_count (tree_of b) s → entry_start b (entry (tree_of b) s) k ≡ element_start (tree_of b) s k
  unfolding entry_start entry element_start start_offset start_of layout_in layout_of
  start_read k h = by_type (has_offsets (element_type_of (tree_of b) s)) refl
    where
      j : ℕ
      j = offsets_of (tree_of b) s

      by_type : (t : Bool) → has_offsets (element_type_of (tree_of b) s) ≡ t
          → cond t (number_at b (data_start (tree_of b) j) (width (tree_of b) j) k) (k * nodes_per (element_type_of (tree_of b) s))
          ≡ cond t (number (tree_of b) j k) (k * nodes_per (element_type_of (tree_of b) s))
      by_type true o = indices_at b (table-passed b a.accepted) j (offsets a o) k (omega (arith, offsets-size a o))
      by_type false o = refl

  -- the tests of 43
  offsets-inside : (k : ℕ) → k < element_count (tree_of b) s
      → (has_offsets (element_type_of (tree_of b) s) ⊃ inside b (data_start (tree_of b) (offsets_of (tree_of b) s)) (width (tree_of b) (offsets_of (tree_of b) s)) (k + 2))
      ≡ true
  offsets-inside k h =
      implied (has_offsets (element_type_of (tree_of b) s)) _
      (λ o. indices_inside b (table-passed b a.accepted) (offsets_of (tree_of b) s) (offsets a o) (k + 2) (omega (arith, offsets-size a o)))

  start_small : has_offsets (element_type_of (tree_of b) s) ≡ true → (k : ℕ) → k ≤ element_count (tree_of b) s
      → element_start (tree_of b) s k < half (width (tree_of b) (offsets_of (tree_of b) s))
  unfolding element_start start_of layout_of
  start_small o k h = rw o (offsets-not-negative a o k h)

  starts_lawful : (k : ℕ) → k < element_count (tree_of b) s
      → starts_before (entry (tree_of b) s) (element_start (tree_of b) s k) (element_start (tree_of b) s (suc k)) ≡ true
  unfolding starts_before entry
  starts_lawful k h = by_type (has_offsets (element_type_of (tree_of b) s)) refl
    where
      w : ℕ
      w = width (tree_of b) (offsets_of (tree_of b) s)

      x : ℕ
      x = element_start (tree_of b) s k

      y : ℕ
      y = element_start (tree_of b) s (suc k)

      by_type : (t : Bool) → has_offsets (element_type_of (tree_of b) s) ≡ t → cond t (not (negative w x) && below w x y) (ltb x y) ≡ true
      by_type true o =
          and_both (not (negative w x)) (below w x y) (rw (not_negative_lem w x (start_small o k (omega arith))))
          (below-is w x y (span a k h).starts-before (start_small o (suc k) h))
      by_type false o = lt-ltb x y (span a k h).starts-before

  -- its own type
  type_read : (k : ℕ) → k < element_count (tree_of b) s → own_type (layout_in b (entry (tree_of b) s)) k ≡ own_type (layout_of (tree_of b) s) k
  unfolding own_type entry entry_start element_start layout_in layout_of reference connectivity_length
  type_read k h =
      rw (start_read k (omega arith))
      (ap (λ x. cond (eqb (element_type_of (tree_of b) s) MIXED) x (element_type_of (tree_of b) s))
      (indices_at b (table-passed b a.accepted) (connectivity_of (tree_of b) s) (connectivity a) (element_start (tree_of b) s k) (omega (arith, span a k h))))

  fits_read : (k : ℕ) → k < element_count (tree_of b) s → type_fits (layout_in b (entry (tree_of b) s)) k ≡ type_fits (layout_of (tree_of b) s) k
  unfolding type_fits entry_start element_start
  fits_read k h = rw (start_read k (omega arith), start_read (suc k) h, type_read k h)

  pub readable-at : (k : ℕ) → k < element_count (tree_of b) s → readable b (entry (tree_of b) s) k ≡ true
  unfolding readable entry element_rules connectivity_length
  readable-at k h =
      rw (start_read k (omega arith), start_read (suc k) h, fits_read k h)
      (and_both _ _
      (and_both _ _
      (and_both _ _
      (and_both _ _
      (and_both _ _ (section-rule a 27)
      (indices_inside b (table-passed b a.accepted) (connectivity_of (tree_of b) s) (connectivity a) _ (omega arith)))
      (offsets-inside k h))
      (starts_lawful k h))
      (le-leb _ _ (span a k h).ends-inside))
      (type_fits_lem a k h))

  -- an element's size, and the number stored at a corner
  size_read : (k : ℕ) → k < element_count (tree_of b) s → entry_size b (entry (tree_of b) s) k ≡ element_size (tree_of b) s k
  unfolding entry_size element_size size_of entry entry_start element_start layout_in layout_of
  size_read k h = rw (start_read k (omega arith), start_read (suc k) h, type_read k h)

  pub corner-inside : (k c : ℕ) → k < element_count (tree_of b) s → 1 ≤ c → c ≤ element_size (tree_of b) s k
      → corner_place (layout_of (tree_of b) s) k c < connectivity_length (tree_of b) s
  corner-inside k c h l m = omega (arith, (span a k h).ends-inside, corner-before-end a k c h l m)

  number_read : (k c : ℕ) → k < element_count (tree_of b) s → 1 ≤ c → c ≤ element_size (tree_of b) s k
      → corner_number b (entry (tree_of b) s) k c ≡ signed (width (tree_of b) (connectivity_of (tree_of b) s)) (corner_reference (tree_of b) s k c)
  unfolding corner_number entry corner_reference reference connectivity_length corner_place entry_start element_start layout_in layout_of
  number_read k c h l m =
      rw (start_read k (omega arith))
      (ap (signed (width (tree_of b) (connectivity_of (tree_of b) s)))
      (indices_at b (table-passed b a.accepted) (connectivity_of (tree_of b) s) (connectivity a) (corner_place (layout_of (tree_of b) s) k c)
      (corner-inside k c h l m)))

  -- an element of the range is one of the elements
  pub element-inside : (el : ℕ) → first_element (tree_of b) s ≤ el → el ≤ last_element (tree_of b) s
      → el - first_element (tree_of b) s < element_count (tree_of b) s
  unfolding element_count
  element-inside el l m = omega arith

  -- the reader's answer in each case
  pub answer_41 : (el c : ℕ) → ((first_element (tree_of b) s ≤ el) × (el ≤ last_element (tree_of b) s) → ⊥)
      → corner_answer b (entry (tree_of b) s) el c ≡ rejected (rejection 41 0)
  unfolding corner_answer corner_check check ◌gives◌ ◌then◌ in_entry entry
  answer_41 el c f = rw (not_between (first_element (tree_of b) s) el (last_element (tree_of b) s) f)

  pub element_41 : (el room : ℕ) → ((first_element (tree_of b) s ≤ el) × (el ≤ last_element (tree_of b) s) → ⊥)
      → element_corners_answer b (entry (tree_of b) s) el room ≡ rejected (rejection 41 0)
  unfolding element_corners_answer element_corners_check check ◌gives◌ ◌then◌ in_entry entry
  element_41 el room f = rw (not_between (first_element (tree_of b) s) el (last_element (tree_of b) s) f)

  pub type_41 : (el : ℕ) → ((first_element (tree_of b) s ≤ el) × (el ≤ last_element (tree_of b) s) → ⊥)
      → own_type_answer b (entry (tree_of b) s) el ≡ rejected (rejection 41 0)
  unfolding own_type_answer own_type_check check ◌gives◌ ◌then◌ in_entry entry
  type_41 el f = rw (not_between (first_element (tree_of b) s) el (last_element (tree_of b) s) f)

  module _ (el c : ℕ) (l : first_element (tree_of b) s ≤ el) (m : el ≤ last_element (tree_of b) s) where
    in_entry_lem : in_entry (entry (tree_of b) s) el ≡ true
    unfolding in_entry entry
    in_entry_lem = between (first_element (tree_of b) s) el (last_element (tree_of b) s) l m

    can_read : readable b (entry (tree_of b) s) (el - first_element (tree_of b) s) ≡ true
    can_read = readable-at (el - first_element (tree_of b) s) (element-inside el l m)

    -- past 41 and 43 only the corner's number counts
    past : corner_answer b (entry (tree_of b) s) el c
        ≡ (check 0 (42 unless is_corner b (entry (tree_of b) s) (el - first_element (tree_of b) s) c ∷ []) gives corner_number b (entry (tree_of b) s)
        (el - first_element (tree_of b) s) c)
    unfolding corner_answer corner_check check entry
    past = rw (in_entry_lem, can_read)

    pub answer_42 : ((1 ≤ c) × (c ≤ element_size (tree_of b) s (el - first_element (tree_of b) s)) → ⊥)
        → corner_answer b (entry (tree_of b) s) el c ≡ rejected (rejection 42 0)
    unfolding check is_corner ◌gives◌ ◌then◌
    answer_42 f =
        past
        ∙ rw (size_read (el - first_element (tree_of b) s) (element-inside el l m), not_between 1 c (element_size (tree_of b) s (el - first_element (tree_of b) s)) f)

    pub answer-stored : 1 ≤ c → c ≤ element_size (tree_of b) s (el - first_element (tree_of b) s)
        → corner_answer b (entry (tree_of b) s) el c
        ≡ answer (signed (width (tree_of b) (connectivity_of (tree_of b) s)) (corner_reference (tree_of b) s (el - first_element (tree_of b) s) c))
    unfolding check is_corner ◌gives◌ ◌then◌
    answer-stored p q =
        past
        ∙ rw (
          size_read (el - first_element (tree_of b) s) (element-inside el l m),
          between 1 c (element_size (tree_of b) s (el - first_element (tree_of b) s)) p q,
          number_read (el - first_element (tree_of b) s) c (element-inside el l m) p q,
        )

    -- all corners at once: past 41 and 43 only the room counts
    pub element-answer : (room : ℕ) → element_corners_answer b (entry (tree_of b) s) el room
        ≡ (check 0 (46 unless leb (element_size (tree_of b) s (el - first_element (tree_of b) s)) room ∷ []) gives element_size (tree_of b) s
        (el - first_element (tree_of b) s))
    unfolding element_corners_answer element_corners_check check entry
    element-answer room = rw (in_entry_lem, can_read, size_read (el - first_element (tree_of b) s) (element-inside el l m))

    -- an element's own type
    pub type-answer : own_type_answer b (entry (tree_of b) s) el ≡ answer (own_type (layout_of (tree_of b) s) (el - first_element (tree_of b) s))
    unfolding own_type_answer own_type_check check ◌gives◌ ◌then◌ entry
    type-answer = rw (in_entry_lem, can_read, type_read (el - first_element (tree_of b) s) (element-inside el l m))
