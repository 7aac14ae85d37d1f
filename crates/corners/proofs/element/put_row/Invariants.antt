-- After k turns the first k numbers stand in front.
use mathlib.Core.Path.{◌≡◌}
use Rattle.model.specs.Lists.{over}
use Rattle.corners.specs.Spans.{row_values}
use Rattle.corners.proofs.element.put_row.Given as goal

abbrev pub invariant-loop-k : goal.invariant-loop-k
invariant-loop-k g l = l.x-items ≡ over l.initial.x-items (row_values l.image l.row l.start l.k)
