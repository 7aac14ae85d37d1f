-- The entries of the sections visited are stored in front; the last of them is at node `at`.
use Rattle.sections.proofs.Filling.{Filled}
use Rattle.sections.proofs.listing.list_sections.Given as goal

abbrev pub invariant-loop-i : goal.invariant-loop-i
invariant-loop-i l = Filled l.image l.zone l.n l.initial.out l.out l.at l.i
