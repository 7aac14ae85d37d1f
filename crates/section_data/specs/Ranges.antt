-- The element ranges of sections, in the order of their keys: a zone's number above the element's.
use Rattle.std.specs.Prelude.{ℕ, ◌≤◌, ◌<◌, ◌≡◌, Option, Some, None, Bool, false, cond, ◌&&◌, List, eqb, ltb}
use Rattle.model.specs.Lists.{◌⊃◌, some_from}
use Rattle.model.specs.Image.{Tree, parent}
use Rattle.model.specs.Containment.{validated_as, found, Elements}
use Rattle.model.specs.Values.{max_number, type_lawful, value_lawful, range_of}
use Rattle.model.specs.Elements.{element_type_of, first_element, last_element, in_range, overlap, conforming_section, face_of, cell_of}
use Rattle.ranges.specs.Tables.{key, in_ranges, Ordered}

-- where a type is asked for, section s meets 24 and 25 and has the type; 0 asks for any section
unfoldable pub is_wanted : Tree → ℕ → ℕ → Bool
is_wanted t e s = ltb 0 e ⊃ (type_lawful t s && value_lawful t s && eqb (element_type_of t s) e)

-- such a section, with a conforming range
unfoldable pub is_ranged : Tree → ℕ → ℕ → Bool
is_ranged t e s = validated_as t Elements s && is_wanted t e s && found t (range_of t s)

-- the keys of its first and last element
unfoldable pub first_key : Tree → ℕ → ℕ
first_key t s = key (parent t s) (first_element t s)

unfoldable pub last_key : Tree → ℕ → ℕ
last_key t s = key (parent t s) (last_element t s)

-- the node of its range; none where section s is no such section
unfoldable pub range_if : Tree → ℕ → ℕ → Option ℕ
range_if t e s = cond (is_ranged t e s) (Some (range_of t s)) None

-- 28: section s meets an earlier one, where both have ranges
unfoldable pub ranged_overlap : Tree → ℕ → ℕ → Bool
ranged_overlap t s r = is_ranged t 0 r && overlap t s r

unfoldable pub overlap_at : Tree → ℕ → Bool
overlap_at t s = is_ranged t 0 s && some_from (ranged_overlap t s) s 0

-- section s brings element f, of type e, to zone z; f is such an element of the zone
unfoldable pub has_of : Tree → ℕ → ℕ → ℕ → ℕ → Bool
has_of t e z f s = conforming_section t z s && eqb (element_type_of t s) e && in_range t s f

unfoldable pub of_type : Tree → ℕ → ℕ → ℕ → Bool
of_type t e z f = some_from (has_of t e z f) t.count 0

-- n entries hold the numbers of each zone that meet a test; no greater number than 2,147,483,647 does
pub record TableOf (p : ℕ → ℕ → Bool) (firsts reach : List ℕ) (n : ℕ) : Type 0 where
  pub few : n ≤ 2048
  pub ordered : Ordered firsts reach n
  pub in_ranges_lem : (z f : ℕ) → f < 4294967296 → in_ranges firsts reach n (key z f) ≡ p z f
  pub small : (z f : ℕ) → max_number < f → p z f ≡ false

-- the faces of all zones, and the cells
abbrev pub Faces : Tree → List ℕ → List ℕ → ℕ → Type 0
Faces t = TableOf (face_of t)

abbrev pub Cells : Tree → List ℕ → List ℕ → ℕ → Type 0
Cells t = TableOf (cell_of t)
