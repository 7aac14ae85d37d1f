-- Rows of numbers in bytes, and what rules 34 to 37 ask of each number of a row.
use Rattle.std.specs.Prelude.{ℕ, ◌-◌, ◌≤◌, ◌<◌, ◌≡◌, Option, Some, None, Bool, false, ◌&&◌, ◌||◌, List, leb}
use Rattle.model.specs.Bytes.{magnitude}
use Rattle.model.specs.Image.{Tree}
use Rattle.model.specs.Elements.{face_of}
use Rattle.model.specs.Corner.{number_at}
use Rattle.rows.specs.declared.Row.{Row}
use Rattle.ranges.specs.declared.Interval.{Interval}
use Rattle.ranges.specs.Tables as Tables
use Rattle.section_data.specs.Passing.{Passed}

-- 34: number k lies in 1 to limit
unfoldable pub is_within : List ℕ → ℕ → ℕ → ℕ → ℕ → Bool
is_within b at w limit k = leb 1 (number_at b at w k) && leb (number_at b at w k) limit

-- the magnitude of number k of a row is a face of zone z
unfoldable pub refers_face : Tree → ℕ → List ℕ → ℕ → ℕ → ℕ → Bool
refers_face t z b at w k = face_of t z (magnitude w (number_at b at w k))

-- one of two intervals holds f
abbrev pub is_known : Interval → Interval → ℕ → Bool
is_known last before f = Tables.is_within last f || Tables.is_within before f

-- one of them holds the magnitude of number i of a row
abbrev pub known_at : List ℕ → Row → Interval → Interval → ℕ → Bool
known_at b row last before i = is_known last before (magnitude row.width (number_at b row.at row.width i))

-- the first of n numbers that does not meet a test; none where each does
abbrev pub FirstFailing : (ℕ → Bool) → ℕ → Option ℕ → Type 0
FirstFailing p n None = Passed p n 0 n
FirstFailing p n (Some j) = Passed p n 0 j × (j < n) × (p j ≡ false)

-- of the numbers from k to m, of n: `place` is 0 where each meets a test, else the place, counted from 1, of the first that does not
pub record Failing (p : ℕ → Bool) (n k m place : ℕ) : Type 0 where
  pub none : place ≡ 0 → Passed p n k m
  pub before : 0 < place → Passed p n k (place - 1) × (place ≤ m)
  pub fails : 0 < place → p (place - 1) ≡ false
