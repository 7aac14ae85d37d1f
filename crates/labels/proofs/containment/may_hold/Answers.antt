-- The cell is not 0.
use Rattle.labels.proofs.Grid.{cell_held}
use Rattle.labels.proofs.containment.may_hold.Goals as goal

pub returns : goal.returns
returns c = rw c.cell.ensures (cell_held _ _)
