-- A table of zeros is lent.
use Rattle.table.proofs.table_stage.Goals as goal

pub returns : goal.returns
returns c = c.table_stage_with.ensures
