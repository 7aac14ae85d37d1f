-- The entry that holds f holds every number of the interval, which is cut to the zone.
use Rattle.std.proofs.Common.{arith}
use Rattle.ranges.proofs.Intervals.{low_high, around}
use Rattle.ranges.proofs.interval_around.Goals as goal

pub returns : goal.returns
returns c =
    let e = c.in_ok-j.ensures in
    around _ _ _ _ _ e.1 c.key.ensures.0 c.key-base.ensures.0 c.requires.1.1 c.cut-low.ensures c.cut-high.ensures e.0

pub overflow_sub-result : goal.overflow_sub-result
overflow_sub-result c =
    let l = low_high _ _ _ _ _ c.in_ok-j.ensures.1 c.key.ensures.0 c.key-base.ensures.0 c.requires.1.1 c.cut-low.ensures c.cut-high.ensures in
    omega arith
