-- The nodes of a section of an accepted image: what was looked up conforms, and its numbers can be read.
use Prim.Native.Nat.{ℕ, ◌+◌, ◌≤◌, ◌<◌}
use mathlib.Core.Path.{◌≡◌, refl, sym, ap, ◌∙◌}
use mathlib.Core.Bool.{true, false, ◌&&◌}
use mathlib.Core.List.{List, [], ◌∷◌}
use native.Mathlib.Omega.{arith}
use lib.ListN.{length}
use lib.Dec.{eqb}
use borrow.Author.Tests.{lt-ltb, le-ltb, eqb-true, eq-eqb}
use Rattle.std.proofs.Common.{Option, Some, None}
use Rattle.std.specs.Option.{unwrap_or}
use Rattle.model.specs.Found.{if_below}
use Rattle.model.proofs.Found.{the_none}
use Rattle.model.proofs.Absent.{absent_width}
use Rattle.types.proofs.Missing.{there}
use Rattle.model.specs.Lists.{row}
use Rattle.model.specs.Bytes.{text}
use Rattle.model.specs.Image.{tree_of, node_count, parent, node, word_count, dimensions, width, number, I4, I8}
use Rattle.model.specs.Containment.{role, section_of, child, found, Root, Elements, IndexRange, DataArray, UserDefinedData}
use Rattle.model.specs.Values.{sids_rules, typed, shaped, flat, size, element_array, type_lawful, conforming, range_of, offsets_of, connectivity_of}
use Rattle.model.specs.Elements.{element_type_of, first_element, last_element, connectivity_length, parents_of}
use Rattle.model.specs.Given.{Sound}
use Rattle.model.specs.Sections.{data_start, entry}
use Rattle.model.proofs.Logic.{and_first, and_second, and_both, or_left}
use Rattle.model.proofs.Accepted.{sids_rule}
use Rattle.model.proofs.Bounds.{node-placed}
use Rattle.model.proofs.Conforming.{conforming-inside, conforming-type, conforming-parent, conforming-role, conforming-name}
use Rattle.model.proofs.Arrays.{element_array_lem}
use Rattle.model.proofs.InZone.{InZone, parts, role-is, range-found, connectivity}
use Rattle.model.proofs.LookedUp.{child_conforms}
use Rattle.index.specs.Index.{kind}
use Rattle.index.proofs.Marking.{kind-role}
use Rattle.types.specs.Given.{HasNumber}
use Rattle.types.proofs.StoredNumbers.{whole_four, has_pair, has_less}
use Rattle.types.proofs.Roles.{range-has as range-pair}
use Rattle.zone_sections.specs.After.{AcceptedSection}
use Rattle.model.proofs.Reading.{rank_is}

-- a node that is missing has no place
pub absent_start : (b : List ℕ) (j : ℕ) → node_count b ≤ j → 0 ≡ data_start (tree_of b) j
unfolding data_start found tree_of
absent_start b j h = rw (le-ltb j (node_count b) h)

pub present_start : (b : List ℕ) (j : ℕ) → j < node_count b → (tree_of b).area_at + (node (tree_of b) j).data_at ≡ data_start (tree_of b) j
unfolding data_start found tree_of
present_start b j h = rw (lt-ltb j (node_count b) h)

-- a child that was looked up, or a missing one
module _ (b : List ℕ) (x : ℕ) {r : ℕ} where
  pub start_by : (o : Option ℕ) → o ≡ if_below (node_count b) x → r ≡ data_start (tree_of b) (unwrap_or o (node_count b)) → r ≡ data_start (tree_of b) x
  start_by None e f = f ∙ sym (absent_start b (node_count b) (omega arith)) ∙ absent_start b x (the_none (sym e))
  start_by (Some j) e f = rw (there e).0 at f

  pub width_by : (o : Option ℕ) → o ≡ if_below (node_count b) x → r ≡ width (tree_of b) (unwrap_or o (node_count b)) → r ≡ width (tree_of b) x
  width_by None e f = f ∙ absent_width b (node_count b) (omega arith) ∙ sym (absent_width b x (the_none (sym e)))
  width_by (Some j) e f = rw (there e).0 at f

-- a node of one dimension: its dimension word
pub one_word : (b : List ℕ) → Sound b → (j : ℕ) → j < node_count b → flat (tree_of b) j ≡ true
    → (0 < (node (tree_of b) j).rank) × ((node (tree_of b) j).first_word + (node (tree_of b) j).rank ≤ word_count b)
unfolding flat
one_word b s j h e =
    let r = rank_is (tree_of b) j in
    let q = eqb-true (length (dimensions (tree_of b) j)) 1 e in
    (omega arith, (node-placed b s.table j h).words_in)

module _ {b : List ℕ} {s : ℕ} (a : AcceptedSection b s) where
  in_zone : InZone b (parent (tree_of b) s) s
  unfolding section_of
  in_zone =
      record {
        accepted = a.accepted.image;
        listed = a.inside;
        is-section = and_both (eqb (parent (tree_of b) s) (parent (tree_of b) s)) _ (eq-eqb (parent (tree_of b) s) (parent (tree_of b) s) refl) a.is-section;
      }

  pub section-kind : kind (tree_of b) s ≡ Elements
  section-kind = kind-role (tree_of b) s (parts in_zone).is-validated (role-is in_zone)

  -- what is looked up under the section
  looked_up : (r : ℕ) (n : List ℕ) → 0 < r → eqb r Root ≡ false → conforming (tree_of b) s r n ≡ child (tree_of b) s r n
  looked_up r n p q =
      let u : eqb (role (tree_of b) s) UserDefinedData ≡ false = rw (role-is in_zone) in
      child_conforms b a.accepted s (parts in_zone).is-validated u r n p q

  pub range-child : range_of (tree_of b) s ≡ child (tree_of b) s IndexRange (text "ElementRange")
  unfolding range_of
  range-child = looked_up 8 (text "ElementRange") (omega arith) refl

  array_child : (n : List ℕ) → conforming (tree_of b) s DataArray n ≡ child (tree_of b) s DataArray n
  array_child n = looked_up 11 n (omega arith) refl

  pub offsets-child : offsets_of (tree_of b) s ≡ child (tree_of b) s DataArray (text "ElementStartOffset")
  unfolding offsets_of
  offsets-child = array_child (text "ElementStartOffset")

  pub connectivity-child : connectivity_of (tree_of b) s ≡ child (tree_of b) s DataArray (text "ElementConnectivity")
  unfolding connectivity_of
  connectivity-child = array_child (text "ElementConnectivity")

  -- the section's own two numbers
  pub own-has : HasNumber b s 0
  unfolding sids_rules type_lawful row
  own-has =
      let r : (typed (tree_of b) s (I4 ∷ []) && shaped (tree_of b) s (2 ∷ [])) ≡ true
      = rw (role-is in_zone) at (sids_rule b a.accepted.image 24 s a.inside (parts in_zone).is-validated) in
      has_less b s 1 0
      (has_pair b a.accepted.sound s a.inside (whole_four (tree_of b) s (and_first (typed (tree_of b) s (I4 ∷ [])) _ r))
      (and_second (typed (tree_of b) s (I4 ∷ [])) _ r))
      (omega arith)

  -- the two numbers of its range
  pub range-has : HasNumber b (range_of (tree_of b) s) 1
  unfolding range_of tree_of
  range-has =
      let j = conforming (tree_of b) s IndexRange (text "ElementRange") in
      let h = range-found in_zone in
      let p = ap (role (tree_of b)) (conforming-parent (tree_of b) s IndexRange (text "ElementRange") h) ∙ role-is in_zone in
      range-pair b a.accepted.sound j (conforming-inside (tree_of b) s IndexRange (text "ElementRange") h)
      (conforming-role (tree_of b) s IndexRange (text "ElementRange") h) p (conforming-type (tree_of b) s IndexRange (text "ElementRange") h)

  -- its connectivity
  pub connectivity-inside : connectivity_of (tree_of b) s < node_count b
  connectivity-inside = (connectivity in_zone).inside-table

  pub connectivity-flat : flat (tree_of b) (connectivity_of (tree_of b) s) ≡ true
  unfolding connectivity_of element_array found tree_of
  connectivity-flat =
      let n = text "ElementConnectivity" in
      let j = conforming (tree_of b) s DataArray n in
      let h : found (tree_of b) j ≡ true = lt-ltb j (node_count b) connectivity-inside in
      and_second (typed (tree_of b) j (I4 ∷ I8 ∷ [])) _
      (element_array_lem (tree_of b) s (role-is in_zone) n h (or_left _ _ (conforming-name (tree_of b) s DataArray n h)))

  -- the same, of the nodes that the look-ups answered
  module _ {r : ℕ} (e : r ≡ child (tree_of b) s IndexRange (text "ElementRange")) where
    pub last_has : HasNumber b r 1
    last_has = rw (e ∙ sym range-child) range-has

    pub first-has : HasNumber b r 0
    first-has = has_less b r 1 0 last_has (omega arith)

  module _ {c : ℕ} (e : c ≡ child (tree_of b) s DataArray (text "ElementConnectivity")) where
    pub found_inside : c < node_count b
    found_inside = rw (e ∙ sym connectivity-child) connectivity-inside

    pub found-flat : flat (tree_of b) c ≡ true
    found-flat = rw (e ∙ sym connectivity-child) connectivity-flat

  pub entry_made : {r o c q : ℕ} → r ≡ child (tree_of b) s IndexRange (text "ElementRange") → o ≡ child (tree_of b) s DataArray (text "ElementStartOffset")
      → c ≡ child (tree_of b) s DataArray (text "ElementConnectivity") → q ≡ parents_of (tree_of b) s
      → record {
        node = s;
        element_type = number (tree_of b) s 0;
        first = number (tree_of b) r 0;
        last = number (tree_of b) r 1;
        offsets_at = data_start (tree_of b) o;
        offsets_width = width (tree_of b) o;
        connectivity_at = data_start (tree_of b) c;
        connectivity_width = width (tree_of b) c;
        connectivity_length = size (tree_of b) c;
        parents_at = data_start (tree_of b) q;
        parents_width = width (tree_of b) q;
      } ≡ entry (tree_of b) s
  unfolding entry element_type_of first_element last_element connectivity_length
  entry_made e f g h = rw (e ∙ sym range-child, f ∙ sym offsets-child, g ∙ sym connectivity-child, h)
