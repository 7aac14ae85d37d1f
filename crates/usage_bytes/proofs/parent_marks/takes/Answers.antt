-- A case each.
use Rattle.usage_bytes.proofs.parent_marks.takes.Goals as goal

pub returns-then-is_cell : goal.returns-then-is_cell
returns-then-is_cell c = rw c.if-is_cell.true

pub returns-else-is_cell : goal.returns-else-is_cell
returns-else-is_cell c = rw c.if-is_cell.false
