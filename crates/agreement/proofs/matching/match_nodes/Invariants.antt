-- One node after the other.
use mathlib.Core.Bool.{true}
use Rattle.model.specs.Image.{tree_of}
use Rattle.agreement.specs.Matching.{Matched, users_on}
use Rattle.agreement.proofs.matching.match_nodes.Given as goal

abbrev pub invariant-loop-i : goal.invariant-loop-i
invariant-loop-i l = Matched l.image l.faces.zone (users_on (tree_of l.image) l.faces.zone 0) (users_on (tree_of l.image) l.faces.zone l.i) l.initial.out true l.out
