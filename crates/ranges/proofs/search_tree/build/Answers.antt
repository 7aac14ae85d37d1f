-- The entries of the zone begin after those of zones before it; each level lies in the table.
use Rattle.std.proofs.Common.{arith}
use Rattle.ranges.specs.Tables.{key}
use Rattle.ranges.proofs.Halving.{begun_up}
use Rattle.ranges.proofs.search_tree.build.Goals as goal

pub overflow_sub-to : goal.overflow_sub-to
unfolding key
overflow_sub-to c =
    begun_up c.begun-from.ensures c.begun-to.ensures (omega (arith, c.key.ensures.0, c.key-2.ensures.0))
