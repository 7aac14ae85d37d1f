-- Every number before j is known.
use Rattle.section_data.specs.Passing.{Passed}
use Rattle.references.specs.Arrays.{known_at}
use Rattle.references.proofs.face_references.first_outside.Given as goal

abbrev pub invariant-loop-j : goal.invariant-loop-j
invariant-loop-j l = Passed (known_at l.image l.row l.last l.before) l.row.n l.k l.j
