-- The width is never 0, so it grows.
use Prim.Native.Nat.{◌-◌, ◌<◌}
use Rattle.name_order.proofs.sort.sort.Given as goal

abbrev pub invariant-loop-width : goal.invariant-loop-width
invariant-loop-width l = 0 < l.width

abbrev pub decreases-loop-width : goal.decreases-loop-width
decreases-loop-width l = l.count - l.width
