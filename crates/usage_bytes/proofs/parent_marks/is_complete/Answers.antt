-- The first mark, then the second.
use borrow.Author.Tests.{eq-eqb, ne_eqb}
use Rattle.usage_bytes.specs.ParentMarks.{complete}
use Rattle.usage_bytes.proofs.parent_marks.is_complete.Goals as goal

pub returns-then-single : goal.returns-then-single
unfolding complete
returns-then-single c = rw (eq-eqb _ 1 c.if-marks-eq1.true, c.if-single.true)

pub returns-else-single : goal.returns-else-single
unfolding complete
returns-else-single c = rw (eq-eqb _ 1 c.if-marks-eq1.true, c.if-single.false)

pub returns-else-marks-eq1 : goal.returns-else-marks-eq1
unfolding complete
returns-else-marks-eq1 c = rw (ne_eqb _ 1 c.if-marks-eq1.false)
