-- A section of an accepted image: what its rules say of its range, its start offsets and its connectivity. Each element starts before the next one,
-- and the last one ends where the connectivity does.
use Prim.Native.Nat.{ℕ, suc, ◌+◌, ◌*◌, ◌≤◌, ◌<◌}
use mathlib.Core.Path.{◌≡◌, refl, sym, ◌∙◌}
use mathlib.Core.Bool.{Bool, true, false, ◌&&◌}
use mathlib.Core.List.{List, [], ◌∷◌}
use native.Mathlib.Omega.{arith}
use native.Mathlib.Nat.{suc-mul, mul-le-mul_right}
use lib.Dec.{eqb, leb, ltb}
use borrow.Author.Tests.{eqb-true, leb-true, ltb-true, ltb-false}
use Rattle.model.specs.Lists.{◌⊃◌, row}
use Rattle.model.specs.Bytes.{text, spells, half}
use Rattle.model.specs.Rules.{passed}
use Rattle.model.specs.Image.{Tree, tree_of, node_count, name, width, number, I4, I8}
use Rattle.model.specs.Containment.{role, Elements, IndexRange, DataArray, section_of, found}
use Rattle.model.specs.Values.{sids_rules, size, typed, element_array, complete, value_lawful, conforming, range_of, offsets_of, connectivity_of}
use Rattle.model.specs.Values.{range_value, index_range_value}
use Rattle.model.specs.Elements.{nodes_per, has_offsets, taken, element_type_of, first_element, last_element, element_count, start_offset, connectivity_length}
use Rattle.model.specs.Elements.{element_start, element_size, element_rules, reference_rules, lengths_fit, starts_at_zero, all_rise, ends_at_length}
use Rattle.model.specs.Elements.{MIXED, start_of, corner_place, type_fits, layout_of, all_types_fit, is_type_number}
use Rattle.model.specs.Validation.{image_check}
use Rattle.model.proofs.Logic.{untrue, and_first, and_second, or_left, or_right, or_cases, when, implied}
use Rattle.model.proofs.Walks.{every_at}
use Rattle.model.proofs.Passed.{Claim}
use Rattle.model.proofs.Accepted.{table-passed, sids_rule, element-rule, entry-rule}
use Rattle.model.proofs.Conforming.{IsSection, section-is, conforming-inside, conforming-value, conforming-parent, conforming-role, conforming-name}
use Rattle.model.proofs.StartOffsets.{offsets-small, offsets-next, offsets-end}
use Rattle.model.proofs.Layouts.{corners_fill, corner-next, corner_behind_type, no_type_between}
use Rattle.model.proofs.Arrays.{Indices, indices, element_array_lem}
use Rattle.model.proofs.Absent.{absent_size}

-- a node of some numbers is there
sized_found : (b : List ℕ) (j : ℕ) → 0 < size (tree_of b) j → found (tree_of b) j ≡ true
unfolding found tree_of
sized_found b j h = by_test (ltb j (node_count b)) refl
  where
    by_test : (t : Bool) → ltb j (node_count b) ≡ t → t ≡ true
    by_test true e = refl
    by_test false e = absurd (omega (arith, absent_size b j (ltb-false j (node_count b) e)))

-- what rules 25 and 30 to 32, or 29, say of a section's range and of its k-th element
pub record Range (t : Tree) (s : ℕ) : Type 0 where
  pub from_one : 1 ≤ first_element t s
  pub not-empty : first_element t s ≤ last_element t s
  pub bounded : last_element t s ≤ 2147483647

pub record Span (t : Tree) (s k : ℕ) : Type 0 where
  pub starts-before : element_start t s k < element_start t s (suc k)
  pub ends-inside : element_start t s (suc k) ≤ connectivity_length t s

-- a validated section of the zone z of an accepted image
pub record InZone (b : List ℕ) (z s : ℕ) : Type 0 where
  pub accepted : image_check b ≡ passed
  pub listed : s < node_count b
  pub is-section : section_of (tree_of b) z s ≡ true

module _ {b : List ℕ} {z s : ℕ} (a : InZone b z s) where
  pub parts : IsSection (tree_of b) z s
  parts = section-is (tree_of b) z s a.is-section

  pub role-is : role (tree_of b) s ≡ Elements
  role-is = eqb-true (role (tree_of b) s) Elements parts.elements

  pub section-rule : (n : ℕ) → Claim n (element_rules (tree_of b) s)
  section-rule n = element-rule b a.accepted n s a.listed parts.is-validated parts.elements

  pub section-entry : (n k : ℕ) → k < connectivity_length (tree_of b) s → Claim n (reference_rules (tree_of b) s k)
  section-entry n k h = entry-rule b a.accepted n s a.listed parts.is-validated parts.elements k h

  -- 23: ElementRange and ElementConnectivity are there
  both_found : (found (tree_of b) (range_of (tree_of b) s) && found (tree_of b) (connectivity_of (tree_of b) s)) ≡ true
  unfolding sids_rules complete row
  both_found = rw role-is at (sids_rule b a.accepted 23 s a.listed parts.is-validated)

  pub range-found : found (tree_of b) (range_of (tree_of b) s) ≡ true
  range-found = and_first _ (found (tree_of b) (connectivity_of (tree_of b) s)) both_found

  -- 25: 1 ≤ first ≤ last ≤ 2,147,483,647
  range_lawful : range_value (tree_of b) (range_of (tree_of b) s) ≡ true
  unfolding value_lawful index_range_value row range_of
  range_lawful =
      rw (conforming-parent (tree_of b) s IndexRange (text "ElementRange") range-found, role-is) at
      (rw (conforming-role (tree_of b) s IndexRange (text "ElementRange") range-found) at
      (conforming-value (tree_of b) s IndexRange (text "ElementRange") range-found))

  pub range : Range (tree_of b) s
  unfolding range_value first_element last_element
  range =
      let f = number (tree_of b) (range_of (tree_of b) s) 0 in
      let l = number (tree_of b) (range_of (tree_of b) s) 1 in
      let h = and_first (leb 1 f && leb f l) _ range_lawful in
      record {
        from_one = leb-true 1 f (and_first (leb 1 f) _ h);
        not-empty = leb-true f l (and_second (leb 1 f) _ h);
        bounded = leb-true l 2147483647 (and_second (leb 1 f && leb f l) _ range_lawful);
      }

  -- 24: an index array of the section
  index : (n : List ℕ) → ((j : ℕ) → spells (name (tree_of b) j) n ≡ true → element_array (tree_of b) j ≡ true)
      → found (tree_of b) (conforming (tree_of b) s DataArray n) ≡ true → Indices b (conforming (tree_of b) s DataArray n)
  unfolding tree_of
  index n indexed h =
      let j = conforming (tree_of b) s DataArray n in
      let i = element_array_lem (tree_of b) s role-is n h (indexed j (conforming-name (tree_of b) s DataArray n h)) in
      indices b (table-passed b a.accepted) j (conforming-inside (tree_of b) s DataArray n h)
      (and_first (typed (tree_of b) j (I4 ∷ I8 ∷ [])) _ i)
      (and_second (typed (tree_of b) j (I4 ∷ I8 ∷ [])) _ i)

  pub connectivity : Indices b (connectivity_of (tree_of b) s)
  unfolding connectivity_of element_array
  connectivity =
      index (text "ElementConnectivity") (λ j. or_left _ _)
      (and_second (found (tree_of b) (range_of (tree_of b) s)) (found (tree_of b) (connectivity_of (tree_of b) s)) both_found)

  module _ (o : has_offsets (element_type_of (tree_of b) s) ≡ true) where
    -- 29: n + 1 start offsets, so they are there
    pub offsets-size : size (tree_of b) (offsets_of (tree_of b) s) ≡ element_count (tree_of b) s + 1
    unfolding element_rules lengths_fit
    offsets-size = eqb-true _ _ (rw o at (section-rule 29))

    pub offsets : Indices b (offsets_of (tree_of b) s)
    unfolding offsets_of element_array
    offsets =
        index (text "ElementStartOffset") (λ j. or_right (spells (name (tree_of b) j) (text "ElementConnectivity")) _)
        (sized_found b (offsets_of (tree_of b) s) (omega (arith, offsets-size)))

    -- 30, 31, 32
    starts-at_zero : starts_at_zero (tree_of b) s ≡ true
    unfolding element_rules
    starts-at_zero = when _ _ (section-rule 30) o

    all_rise_lem : all_rise (tree_of b) s ≡ true
    unfolding element_rules
    all_rise_lem = when _ _ (section-rule 31) o

    ends-at-length : ends_at_length (tree_of b) s ≡ true
    unfolding element_rules
    ends-at-length = when _ _ (section-rule 32) o

    pub offsets-not-negative : (k : ℕ) → k ≤ element_count (tree_of b) s → start_offset (tree_of b) s k < half (width (tree_of b) (offsets_of (tree_of b) s))
    offsets-not-negative k h = offsets-small (tree_of b) s starts-at_zero all_rise_lem k h

  module _ (o : has_offsets (element_type_of (tree_of b) s) ≡ false) where
    -- 27: some nodes an element
    nodes-some : 0 < nodes_per (element_type_of (tree_of b) s)
    unfolding element_rules taken
    nodes-some = ltb-true 0 _ (or_cases _ (has_offsets (element_type_of (tree_of b) s)) (section-rule 27) (λ h. h) (λ h. untrue (sym o ∙ h)))

    -- 29: n × nodes
    connectivity-size : connectivity_length (tree_of b) s ≡ element_count (tree_of b) s * nodes_per (element_type_of (tree_of b) s)
    unfolding element_rules lengths_fit
    connectivity-size = eqb-true _ _ (rw o at (section-rule 29))

  -- the k-th element starts before it ends, and it ends in the connectivity
  pub span : (k : ℕ) → k < element_count (tree_of b) s → Span (tree_of b) s k
  unfolding element_start start_of layout_of
  span k h = by_type (has_offsets (element_type_of (tree_of b) s)) refl
    where
      by_type : (t : Bool) → has_offsets (element_type_of (tree_of b) s) ≡ t → Span (tree_of b) s k
      by_type true o =
          record {
            starts-before = rw o (offsets-next (tree_of b) s (starts-at_zero o) (all_rise_lem o) k h);
            ends-inside = rw o (offsets-end (tree_of b) s (starts-at_zero o) (all_rise_lem o) (ends-at-length o) (suc k) h);
          }
      by_type false o =
          let m = nodes_per (element_type_of (tree_of b) s) in
          record {
            starts-before = rw o (omega (arith, nodes-some o, suc-mul k m));
            ends-inside = rw o (omega (arith, connectivity-size o, mul-le-mul_right m h));
          }

  -- 38
  pub type_fits_lem : (k : ℕ) → k < element_count (tree_of b) s → (eqb (element_type_of (tree_of b) s) MIXED ⊃ type_fits (layout_of (tree_of b) s) k) ≡ true
  unfolding element_rules all_types_fit
  type_fits_lem k h =
      implied _ _ (λ m. every_at (type_fits (layout_of (tree_of b) s)) (element_count (tree_of b) s) 0 k (when _ _ (section-rule 38) m) (omega arith) (omega arith))

  pub size-inside : (k : ℕ) → k < element_count (tree_of b) s → element_size (tree_of b) s k ≤ connectivity_length (tree_of b) s
  unfolding element_size element_start layout_of
  size-inside k h =
      let r = span k h in
      omega (arith, corners_fill (layout_of (tree_of b) s) k (type_fits_lem k h) r.starts-before, r.ends-inside)

  -- a corner stands before its element's end
  pub corner-before-end : (k c : ℕ) → k < element_count (tree_of b) s → 1 ≤ c → c ≤ element_size (tree_of b) s k
      → corner_place (layout_of (tree_of b) s) k c < element_start (tree_of b) s (suc k)
  unfolding element_size element_start layout_of
  corner-before-end k c h p q =
      let l = layout_of (tree_of b) s in
      omega (arith, corner-next l k c p, corners_fill l k (type_fits_lem k h) (span k h).starts-before)

  -- and is no type number
  pub corner_no_type : (k c : ℕ) → k < element_count (tree_of b) s → 1 ≤ c → c ≤ element_size (tree_of b) s k
      → is_type_number (tree_of b) s (corner_place (layout_of (tree_of b) s) k c) ≡ false
  unfolding is_type_number element_start layout_of
  corner_no_type k c h p q = by_type (eqb (element_type_of (tree_of b) s) MIXED) refl
    where
      place : ℕ
      place = corner_place (layout_of (tree_of b) s) k c

      by_type : (t : Bool) → eqb (element_type_of (tree_of b) s) MIXED ≡ t → is_type_number (tree_of b) s place ≡ false
      by_type true m =
          let l = layout_of (tree_of b) s in
          no_type_between (tree_of b) s (λ i u. (span i u).starts-before) k place h (omega (arith, corner-next l k c p, corner_behind_type l k m))
          (corner-before-end k c h p q)
      by_type false m = rw m
