-- The first run has given no more nodes than were put.
use Prim.Native.Nat.{◌≤◌}
use Rattle.name_order.proofs.sort.merge.Given as goal

abbrev pub invariant-loop-k : goal.invariant-loop-k
invariant-loop-k l = l.a ≤ l.k
