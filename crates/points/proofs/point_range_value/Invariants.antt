-- What is left of the directions decides.
use Rattle.model.specs.Image.{tree_of}
use Rattle.model.specs.Values.{direction_lawful, point_range_value}
use Rattle.model.proofs.Loops.{EveryLeft}
use Rattle.points.proofs.point_range_value.Given as goal

abbrev pub invariant-loop-d : goal.invariant-loop-d
invariant-loop-d l = EveryLeft (direction_lawful (tree_of l.image) l.i) l.n l.d (point_range_value (tree_of l.image) l.i)
