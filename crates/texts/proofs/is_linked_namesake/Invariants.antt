-- From node to node of the class: those from j on are no namesakes.
use Rattle.records.specs.Table.{all_records}
use Rattle.texts.proofs.Marks.{Searched}
use Rattle.texts.proofs.is_linked_namesake.Given as goal

abbrev pub invariant-loop-j : goal.invariant-loop-j
invariant-loop-j l = Searched (all_records l.table) l.i l.j

abbrev pub decreases-loop-j : goal.decreases-loop-j
decreases-loop-j l = l.j
