-- The begin and the end of a direction are stored.
use Prim.Native.Nat.{ℕ, ◌+◌, ◌*◌, ◌<◌}
use mathlib.Core.Path.{refl}
use mathlib.Core.List.{List}
use native.Mathlib.Omega.{arith}
use borrow.Author.Rules.{rules}
use Rattle.model.specs.Image.{tree_of}
use Rattle.model.specs.Values.{index_dimension, zone_above, direction_lawful, bounded, points_in, range_begin, range_end}
use Rattle.types.specs.Given.{HasNumber}
use Rattle.points.proofs.PointRanges.{point_has}
use Rattle.points.proofs.points_in.Goals as goal
use Rattle.points.proofs.points_in.Goals.{After-width_at-wide}

-- the numbers of all directions can be read
module _ (c : After-width_at-wide) where
  abbrev b : List ℕ
  b = c.args.image.now

  has : (k : ℕ) → k < 2 * index_dimension (tree_of b) (zone_above (tree_of b) c.args.i) → HasNumber b c.args.i k
  has k h = point_has b c.args.i c.requires.sound.1 c.requires.sound.0 k h

pub number-begin-requires : goal.number-begin-requires
number-begin-requires c =
    let n = has c c.args.d (omega arith) in
    rw c.width_at-wide.ensures.0 (record { sound = (c.requires.sound.0, n.inside); t = (n.wide, refl); wide_bound = n.room })

pub number-end-requires : goal.number-end-requires
number-end-requires c =
    let n = has (goal.at.number-end-requires c).After-width_at-wide (c.args.n + c.args.d) (omega arith) in
    rw c.width_at-wide.ensures.0 (record { sound = (c.requires.sound.0, n.inside); t = (n.wide, refl); wide_bound = n.room })

pub points_between-requires : goal.points_between-requires
points_between-requires c =
    let d = (goal.at.points_between-requires c).After-width_at-wide in
    let n = has d d.args.d (omega arith) in
    (rw d.width_at-wide.ensures.0 n.wide, (search rules, search rules))

pub returns : goal.returns
unfolding direction_lawful bounded points_in range_begin range_end
returns c =
    let r = c.points_between.ensures in
    (rw (c.number-begin.ensures.0, c.number-end.ensures.0, c.width_at-wide.ensures.0, c.requires.n_value.0) at r.0, r.1)
