-- Each two runs end with the last node.
use Prim.Native.Nat.{◌-◌}
use Rattle.name_order.proofs.sort.merge_all.Given as goal

abbrev pub decreases-loop-start : goal.decreases-loop-start
decreases-loop-start l = l.count - l.start
