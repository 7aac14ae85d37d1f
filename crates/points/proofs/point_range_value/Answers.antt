-- What is left of the directions decides.
use Rattle.model.specs.Values.{point_range_value}
use Rattle.model.proofs.Loops.{every_start, every_more, every_stop, every_done}
use Rattle.points.proofs.PointRanges.{unlawful, is_lawful}
use Rattle.points.proofs.point_range_value.Goals as goal

pub loop-d-init : goal.loop-d-init
unfolding point_range_value
loop-d-init c = rw (← c.dimension_above-n.ensures.0) (every_start _ _)

pub returns-then-points_in-eq0 : goal.returns-then-points_in-eq0
returns-then-points_in-eq0 c =
    every_stop c.loop-d.invariant c.loop-d-test.true (unlawful _ _ _ c.points_in.ensures.0 c.if-points_in-eq0.true)

pub loop-d-preserved : goal.loop-d-preserved
loop-d-preserved c =
    every_more c.loop-d.invariant c.loop-d-test.true (is_lawful _ _ _ c.points_in.ensures.0 c.if-points_in-eq0.false)

pub returns : goal.returns
returns c = every_done c.loop-d.invariant c.loop-d-test.false
