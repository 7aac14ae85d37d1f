-- The difference wraps round where f is below the interval.
use Rattle.ranges.proofs.Intervals.{within_is}
use Rattle.std.proofs.Common.{rules}
use Rattle.ranges.proofs.within.Goals as goal

pub returns : goal.returns
returns c = within_is _ _ _ c.requires (search rules) (search rules) c.wrapping_sub_u64.ensures.value
