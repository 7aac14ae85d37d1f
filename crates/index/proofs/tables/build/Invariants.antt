-- The rows of the nodes before j are there.
use Rattle.index.specs.Index.{Rows}
use Rattle.index.proofs.tables.build.Given as goal

abbrev pub invariant-loop-j : goal.invariant-loop-j
invariant-loop-j l = Rows l.image l.index l.j l.j
