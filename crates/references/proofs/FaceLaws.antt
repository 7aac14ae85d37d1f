-- References to faces: the magnitudes of a row's numbers, and those in intervals that ranges cover.
use Prim.Native.Nat.{ℕ}
use mathlib.Core.Path.{◌≡◌, sym, ap, ◌∙◌}
use mathlib.Core.Bool.{Bool}
use mathlib.Core.List.{List}
use Rattle.model.specs.Bytes.{magnitude}
use Rattle.model.specs.Corner.{number_at}
use Rattle.model.specs.Image.{Tree}
use Rattle.model.specs.Elements.{face_of}
use Rattle.model.proofs.Logic.{or_cases}
use Rattle.ranges.specs.Tables.{is_within, Covered}
use Rattle.ranges.specs.declared.Interval.{Interval}
use Rattle.rows.specs.declared.Row.{Row}
use Rattle.section_data.specs.Passing.{Passed}
use Rattle.references.specs.Arrays.{known_at}
use Rattle.references.specs.Arrays.{refers_face}
use Rattle.section_data.specs.Ranges.{Faces}
use Rattle.section_data.proofs.TableLaws.{covered-is}

-- what number k of a row refers to, by its magnitude
pub refers_by : (t : Tree) (z : ℕ) (b : List ℕ) (at w k : ℕ) {f : ℕ} {v : Bool} → f ≡ magnitude w (number_at b at w k) → face_of t z f ≡ v
    → refers_face t z b at w k ≡ v
unfolding refers_face
refers_by t z b at w k e h = sym (ap (face_of t z) e) ∙ h

-- numbers of a row in two intervals that ranges cover refer to faces
pub known_faces : (t : Tree) {firsts reach : List ℕ} {n : ℕ} → Faces t firsts reach n → (z : ℕ) (b : List ℕ) (row : Row) {last before : Interval} {k j : ℕ}
    → Passed (known_at b row last before) row.n k j → Covered firsts reach n z last → Covered firsts reach n z before
    → Passed (refers_face t z b row.at row.width) row.n k j
unfolding refers_face
known_faces t g z b row {last} {before} s c d =
    record {
      from = s.from;
      to = s.to;
      each = λ i x y. or_cases (is_within last _) (is_within before _) (s.each i x y) (covered-is g z c _) (covered-is g z d _);
    }
