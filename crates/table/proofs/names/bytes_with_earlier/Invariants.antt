-- From sibling to sibling: what is left gives the sum.
use Rattle.records.specs.Table.{all_records}
use Rattle.table.proofs.Pairs.{Left}
use Rattle.table.proofs.names.bytes_with_earlier.Given as goal

abbrev pub invariant-loop-j : goal.invariant-loop-j
invariant-loop-j l = Left (all_records l.table) l.i l.j l.sum

abbrev pub decreases-loop-j : goal.decreases-loop-j
decreases-loop-j l = l.j
