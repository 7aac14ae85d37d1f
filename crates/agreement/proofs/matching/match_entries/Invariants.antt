-- The run has come to entry k: the uses before it are matched.
use Rattle.agreement.proofs.RunLaws.{Going}
use Rattle.agreement.proofs.matching.match_entries.Given as goal

abbrev pub invariant-loop-k : goal.invariant-loop-k
invariant-loop-k l = Going l.image l.faces.zone l.s l.offsets l.arrays l.initial.out l.out l.cell l.last l.array l.k
