-- The whole is the rest from start offset k on, which is at hand and not negative.
use Rattle.elements.proofs.Offsets.{Rising}
use Rattle.elements.proofs.lengths.all_rise.Given as goal

abbrev pub invariant-loop-k : goal.invariant-loop-k
invariant-loop-k l = Rising l.image l.row.at l.width l.least l.n l.k l.last
