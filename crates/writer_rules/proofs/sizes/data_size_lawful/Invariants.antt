-- The dimensions from d on, and the product before them, decide.
use mathlib.Core.Path.{◌≡◌}
use lib.ListN.{drop}
use Rattle.table.proofs.Laws.{sized}
use Rattle.writer_rules.proofs.sizes.data_size_lawful.Given as goal

abbrev pub invariant-loop-d : goal.invariant-loop-d
invariant-loop-d l = sized l.m l.size (drop l.d-index l.dimensions) ≡ sized l.width l.size l.dimensions
