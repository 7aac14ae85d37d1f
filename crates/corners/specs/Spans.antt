-- Where an element's corners stand in its section's connectivity, as the reader finds it out.
use Rattle.std.specs.Prelude.{ℕ, suc, ◌+◌, ◌*◌, ◌-◌, ◌≤◌, ◌<◌, ◌≡◌, Bool, true, false, not, ◌&&◌, List, [], ◌∷◌, eqb, leb, ltb, length, ℤ, Option, Some, None, IfSome}
use Rattle.model.specs.declared.Section.{Section}
use Rattle.model.specs.Bytes.{negative, below, signed}
use Rattle.model.specs.Lists.{over}
use Rattle.model.specs.Rules.{◌unless◌, Answer, check, ◌gives◌, leaves}
use Rattle.model.specs.Elements.{MIXED, fits_length, corner_place}
use Rattle.model.specs.Corner.{in_entry, inside, number_at, layout_in, entry_start, readable}
use Rattle.model.specs.ReadList.{values_from}
use Rattle.rows.specs.declared.Row.{Row}
use Rattle.corners.specs.declared.spans.Span.{Span}

-- a span that holds on a condition
abbrev pub provided : Bool → Option Span → Option Span
provided true s = s
provided false s = None

-- an element of a type with a fixed number of nodes
unfoldable pub fixed_span : ℕ → ℕ → ℕ → Option Span
fixed_span k nodes length =
    provided (ltb (k * nodes) (suc k * nodes) && leb (suc k * nodes) length) (Some (record { start = k * nodes; end = suc k * nodes }))

-- an element between two start offsets, as their bits: start is not negative and before end
unfoldable pub range_between : ℕ → ℕ → ℕ → ℕ → Option Span
range_between w start end length =
    provided ((not (negative w start) && below w start end) && leb end length) (Some (record { start = start; end = end }))

unfoldable pub offset_span : List ℕ → ℕ → ℕ → ℕ → ℕ → Option Span
offset_span b at w k length =
    provided (inside b at w (k + 2)) (range_between w (number_at b at w k) (number_at b at w (suc k)) length)

-- an element of a MIXED section begins with a type of the fixed list that has as many nodes as numbers follow; these are its corners
unfoldable pub behind_type : List ℕ → ℕ → ℕ → Option Span → Option Span
behind_type b at w (Some s) =
    provided (fits_length (number_at b at w s.start) (s.end - s.start)) (Some (record { start = s.start + 1; end = s.end }))
behind_type b at w None = None

unfoldable pub mixed_span : List ℕ → ℕ → ℕ → ℕ → Option Span → Option Span
mixed_span b type at w s = provided (eqb type MIXED) (behind_type b at w s)

-- the k-th element's corners
abbrev pub corners_of : List ℕ → Section → ℕ → Span
corners_of b e k = record { start = corner_place (layout_in b e) k 1; end = entry_start b e (suc k) }

-- they are those of the section, where rule 43 is kept
unfoldable pub span_of : List ℕ → Section → ℕ → Option Span
span_of b e k = provided (readable b e k) (Some (corners_of b e k))

-- what is checked before any corner is: 41, then 43
unfoldable pub span_answer : List ℕ → Section → ℕ → Answer Span
span_answer b e el = check 0 (41 unless in_entry e el ∷ 43 unless readable b e (el - e.first) ∷ []) gives corners_of b e (el - e.first)

-- a span has a corner, and lies within the connectivity
abbrev pub SpanIn : ℕ → Option Span → Type 0
SpanIn length s = IfSome s (λ x. (x.start < x.end) × (x.end ≤ length))

-- an entry's connectivity
abbrev pub connectivity_of : Section → Row
connectivity_of e = record { at = e.connectivity_at; width = e.connectivity_width; n = e.connectivity_length }

-- the connectivity lies in the image, and a span in it
abbrev pub held : List ℕ → Section → Bool
held b e = inside b e.connectivity_at e.connectivity_width e.connectivity_length

abbrev pub SpanHeld : List ℕ → Section → Span → Type 0
SpanHeld b e s = (s.start < s.end) × (s.end ≤ e.connectivity_length) × (held b e ≡ true)

abbrev pub SpanInside : List ℕ → Section → Option Span → Type 0
SpanInside b e s = IfSome s (SpanHeld b e)

-- what is left to check once the element's range is known: 42, and the number
unfoldable pub corner_in : List ℕ → Section → ℕ → ℕ → ℕ → Answer ℤ
corner_in b e start end corner =
    check 0 (42 unless (leb 1 corner && leb corner (end - start)) ∷ [])
    gives signed e.connectivity_width (number_at b e.connectivity_at e.connectivity_width (start + (corner - 1)))

-- n numbers of a row, from number `start` on, signed; those of an entry's connectivity
abbrev pub row_values : List ℕ → Row → ℕ → ℕ → List ℤ
row_values b r start n = values_from (λ k. signed r.width (number_at b r.at r.width (start + k))) n 0

abbrev pub element_values : List ℕ → Section → ℕ → ℕ → List ℤ
element_values b e start n = row_values b (connectivity_of e) start n

-- the same of all corners at once: 46, and how many they are; the numbers in front of the lent memory
unfoldable pub corners_in : ℕ → ℕ → ℕ → Answer ℕ
corners_in start end room = check 0 (46 unless leb (end - start) room ∷ []) gives (end - start)

unfoldable pub corners_in_memory : List ℕ → Section → ℕ → ℕ → List ℤ → List ℤ
corners_in_memory b e start end out =
    leaves (corners_in start end (length out)) out
    (over out (element_values b e start (end - start)))
