-- One text, then the other.
use mathlib.Core.Path.{◌∙◌}
use Rattle.model.proofs.Joins.{or_done, or_on}
use Rattle.types.proofs.stored_texts.reads_either.Goals as goal

pub returns-then-reads : goal.returns-then-reads
returns-then-reads c = c.if-reads.true ∙ or_done _ c.reads.ensures c.if-reads.true

pub returns-else-reads : goal.returns-else-reads
returns-else-reads c = or_on c.reads.ensures c.if-reads.false c.reads-else-reads.ensures
