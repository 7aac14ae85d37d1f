-- Rule 39: the parents of faces, as numbers of a zone and as columns of the image's bytes.
use Rattle.std.specs.Prelude.{ℕ, ◌+◌, Option, Some, None, Bool, true, false, cond, not, ◌&&◌, ◌||◌, List, eqb}
use Rattle.model.specs.Image.{Tree, number}
use Rattle.model.specs.Containment.{found}
use Rattle.model.specs.Elements.{NGON, cell_of, parents_of, parents_lawful}
use Rattle.model.specs.Corner.{number_at}
use Rattle.rows.specs.declared.Row.{Row}
use Rattle.ranges.specs.declared.Interval.{Interval}
use Rattle.ranges.specs.Tables.{is_within}
use Rattle.section_data.specs.Ranges.{is_ranged}

-- x is a parent in zone z: a cell, or 0 where `none` allows it
unfoldable pub is_parent : Tree → ℕ → Bool → ℕ → Bool
is_parent t z none x = (none && eqb x 0) || cell_of t z x

-- x is such a 0, or in an interval
unfoldable pub is_known : Interval → Bool → ℕ → Bool
is_known r none x = (none && eqb x 0) || is_within r x

-- number k of a row is one of these; number k is a parent
unfoldable pub known_at : List ℕ → Row → Interval → Bool → ℕ → Bool
known_at b row r none k = is_known r none (number_at b row.at row.width k)

unfoldable pub parent_at : Tree → ℕ → Bool → List ℕ → Row → ℕ → Bool
parent_at t z none b row k = is_parent t z none (number_at b row.at row.width k)

-- the k-th of n faces has parents: node j stores the first parents of all, then the second ones, which may be 0
unfoldable pub pair_at : Tree → ℕ → ℕ → ℕ → ℕ → Bool
pair_at t z j n k = is_parent t z false (number t j k) && is_parent t z true (number t j (n + k))

-- a section of faces whose own data and range count stores parents
unfoldable pub stores_parents : Tree → ℕ → Bool
stores_parents t s = is_ranged t NGON s && found t (parents_of t s)

-- 39: they are not lawful
unfoldable pub parents_broken : Tree → ℕ → Bool
parents_broken t s = stores_parents t s && not (parents_lawful t s)

-- the node of its parents; none where section s stores none
unfoldable pub parents_if : Tree → ℕ → Option ℕ
parents_if t s = cond (stores_parents t s) (Some (parents_of t s)) None
