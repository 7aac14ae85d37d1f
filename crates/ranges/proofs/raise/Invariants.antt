-- The entries before k are raised; where entry k is not below, none after it is, for they rise.
use Rattle.ranges.proofs.Moving.{RaisedTo}
use Rattle.ranges.proofs.raise.Given as goal

abbrev pub invariant-loop-k : goal.invariant-loop-k
invariant-loop-k l = RaisedTo l.least l.initial.table l.table l.place l.k
