-- The entries before `from` begin no later, those after the entries left begin later, for first numbers rise.
use Rattle.ranges.specs.Tables.{Begun}
use Rattle.ranges.proofs.begun.Given as goal

abbrev pub invariant-loop-left : goal.invariant-loop-left
invariant-loop-left l = Begun l.firsts l.n l.f l.from l.left

abbrev pub decreases-loop-left : goal.decreases-loop-left
decreases-loop-left l = l.left
