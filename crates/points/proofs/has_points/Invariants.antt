-- The product of the directions so far, and what is left of it.
use Rattle.model.specs.Image.{tree_of}
use Rattle.points.proofs.PointRanges.{ProductTo}
use Rattle.points.proofs.has_points.Given as goal

abbrev pub invariant-loop-d : goal.invariant-loop-d
invariant-loop-d l = ProductTo (tree_of l.image) l.i l.n l.d l.product
