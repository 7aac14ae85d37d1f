-- A digit of the row; no parent holds nothing.
use mathlib.Core.Path.{◌∙◌}
use Rattle.model.specs.Lists.{among, row}
use Rattle.model.specs.Containment.{may_hold, containment}
use Rattle.labels.specs.Cells.{cell_of}
use Rattle.labels.specs.Roles.{kind_number}
use Rattle.labels.proofs.Numbers.{kind_few}
use Rattle.labels.proofs.containment.cell.Goals as goal

pub returns-in-Some : goal.returns-in-Some
returns-in-Some c =
    rw c.in-Some.is (rw c.kind_number.ensures at c.digit.ensures ∙ c.row.ensures.at (kind_number c.args.below) (kind_few c.args.below))

pub returns-in-None : goal.returns-in-None
unfolding cell_of may_hold containment row among
returns-in-None c = rw c.in-None.is
