-- One pass: a type that does not fit ends it, the place of the first node outside 1 to limit is kept in mind to the end.
use Rattle.references.proofs.MixedLaws.{Walked}
use Rattle.references.proofs.mixed.rows_stage.Given as goal

abbrev pub invariant-loop-k : goal.invariant-loop-k
invariant-loop-k l = Walked l.image l.s l.offsets l.connectivity l.k l.start l.place
