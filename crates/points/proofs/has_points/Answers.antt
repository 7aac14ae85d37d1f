-- The product of the directions so far, and what is left of it.
use mathlib.Core.Path.{◌≡◌}
use native.Mathlib.Omega.{arith}
use Rattle.model.specs.Image.{tree_of}
use Rattle.model.specs.Values.{points_in}
use Rattle.points.proofs.PointRanges.{direction_lawful_lem, points_are, product_start, product_more, product_stop, product-done}
use Rattle.points.proofs.has_points.Goals as goal
use Rattle.points.proofs.has_points.Goals.{After-points_in-k}

pub loop-d-init : goal.loop-d-init
loop-d-init c = product_start _ _ c.dimension_above-n.ensures.0

-- the points of direction d
module _ (c : After-points_in-k) where
  are : c.points_in-k.result ≡ points_in (tree_of c.args.image.now) c.args.i c.loop-d.d
  are =
      let p = c.requires.1 in
      points_are _ _ _ c.points_in-k.ensures.0
      (direction_lawful_lem c.args.image.now c.args.i p.0 p.1 c.loop-d.d
      (rw (← c.dimension_above-n.ensures.0) c.loop-d-test.true))

pub nonzero_div-size : goal.nonzero_div-size
unfolding points_in
nonzero_div-size c = let e = are c in omega arith

pub returns-then-size-k : goal.returns-then-size-k
returns-then-size-k c =
    product_stop _ _ _ _ _ c.loop-d.invariant _ c.loop-d-test.true (are (goal.at.returns-then-size-k c).After-points_in-k) c.if-size-k.true

pub loop-d-preserved : goal.loop-d-preserved
loop-d-preserved c =
    product_more _ _ _ _ _ c.loop-d.invariant c.loop-d-test.true (are (goal.at.loop-d-preserved c).After-points_in-k)

pub returns : goal.returns
returns c = product-done _ _ _ _ _ c.loop-d.invariant _ c.loop-d-test.false
