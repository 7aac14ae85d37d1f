-- Every node before k lies in 1 to limit; behind the type the nodes follow.
use Prim.Native.Nat.{◌+◌}
use Rattle.section_data.specs.Passing.{Passed}
use Rattle.references.specs.Arrays.{is_within}
use Rattle.references.proofs.mixed.place_outside.Given as goal

abbrev pub invariant-loop-k : goal.invariant-loop-k
invariant-loop-k l = Passed (is_within l.image l.connectivity.at l.connectivity.width l.limit) l.connectivity.n (l.start + 1) l.k
