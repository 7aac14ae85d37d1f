-- Every number before j is known.
use Rattle.section_data.specs.Passing.{Passed}
use Rattle.parents.specs.Parents.{known_at}
use Rattle.parents.proofs.columns.first_unknown.Given as goal

abbrev pub invariant-loop-j : goal.invariant-loop-j
invariant-loop-j l = Passed (known_at l.image l.row l.interval l.none) l.row.n l.k l.j
