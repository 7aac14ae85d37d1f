-- Handing out: the corner reader, on any entry and any image, with no verdict first: 41, then 43, then 42.
use Rattle.std.specs.Prelude.{ℕ, suc, ◌+◌, ◌*◌, ◌-◌, Bool, cond, not, ◌&&◌, ◌||◌, List, [], ◌∷◌, length, drop, eqb, leb, ltb, ℤ}
use Rattle.model.specs.declared.Section.{Section}
use Rattle.model.specs.Lists.{◌⊃◌}
use Rattle.model.specs.Bytes.{le, negative, below, signed}
use Rattle.model.specs.Rules.{◌unless◌, Answer, Check, check, ◌gives◌}
use Rattle.model.specs.Elements.{MIXED, has_offsets, taken, Layout, start_of, size_of, corner_place, type_fits}

-- the element number lies in the entry's range
unfoldable pub in_entry : Section → ℕ → Bool
in_entry e el = leb e.first el && leb el e.last

-- a width is 4 or 8, and n numbers of that width from a place on lie inside the image
unfoldable pub width_lawful : ℕ → Bool
width_lawful w = eqb w 4 || eqb w 8

unfoldable pub inside : List ℕ → ℕ → ℕ → ℕ → Bool
inside b at w n = width_lawful w && leb (at + w * n) (length b)

-- number k of that width from a place on, as its bits
unfoldable pub number_at : List ℕ → ℕ → ℕ → ℕ → ℕ
number_at b at w k = le w (drop (at + w * k) b)

-- the entry's layout
unfoldable pub layout_in : List ℕ → Section → Layout
layout_in b e =
    record {
      section_type = e.element_type;
      offset = number_at b e.offsets_at e.offsets_width;
      connectivity = number_at b e.connectivity_at e.connectivity_width;
    }

-- start and size of its k-th element, counted from 0
unfoldable pub entry_start : List ℕ → Section → ℕ → ℕ
entry_start b e k = start_of (layout_in b e) k

unfoldable pub entry_size : List ℕ → Section → ℕ → ℕ
entry_size b e k = size_of (layout_in b e) k

-- start is not negative and before end; start offsets are signed numbers of their width
unfoldable pub starts_before : Section → ℕ → ℕ → Bool
starts_before e start end =
    cond (has_offsets e.element_type)
    (not (negative e.offsets_width start) && below e.offsets_width start end)
    (ltb start end)

-- 43: the type is taken, the widths needed are 4 or 8, the bytes needed lie inside the image, start and end are lawful, and in a
-- MIXED section the element's own type fits
unfoldable pub readable : List ℕ → Section → ℕ → Bool
readable b e k =
    taken e.element_type
    && inside b e.connectivity_at e.connectivity_width e.connectivity_length
    && (has_offsets e.element_type ⊃ inside b e.offsets_at e.offsets_width (k + 2))
    && starts_before e (entry_start b e k) (entry_start b e (suc k))
    && leb (entry_start b e (suc k)) e.connectivity_length
    && (eqb e.element_type MIXED ⊃ type_fits (layout_in b e) k)

-- 42: the corner lies in 1 to the element's size
unfoldable pub is_corner : List ℕ → Section → ℕ → ℕ → Bool
is_corner b e k c = leb 1 c && leb c (entry_size b e k)

unfoldable pub corner_check : List ℕ → Section → ℕ → ℕ → Check
corner_check b e el c =
    check 0
    (41 unless in_entry e el
    ∷ 43 unless readable b e (el - e.first)
    ∷ 42 unless is_corner b e (el - e.first) c
    ∷ [])

-- the number stored at the corner, signed
unfoldable pub corner_number : List ℕ → Section → ℕ → ℕ → ℤ
corner_number b e k c =
    signed e.connectivity_width (number_at b e.connectivity_at e.connectivity_width (corner_place (layout_in b e) k c))

unfoldable pub corner_answer : List ℕ → Section → ℕ → ℕ → Answer ℤ
corner_answer b e el c = corner_check b e el c gives corner_number b e (el - e.first) c
