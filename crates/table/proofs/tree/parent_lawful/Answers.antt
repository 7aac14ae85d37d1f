-- The root has no parent, and another node a lower one.
use borrow.Author.Tests.{eq-eqb, ne_eqb}
use Rattle.model.specs.Records.{parent_lawful}
use Rattle.table.proofs.tree.parent_lawful.Goals as goal

pub returns-then-i-eq0 : goal.returns-then-i-eq0
unfolding parent_lawful
returns-then-i-eq0 c = simp (c.parent_of-up.ensures.0, eq-eqb _ _ c.if-i-eq0.true)

pub returns : goal.returns
unfolding parent_lawful
returns c = simp (c.parent_of-up.ensures.0, ne_eqb _ _ c.if-i-eq0.false)
