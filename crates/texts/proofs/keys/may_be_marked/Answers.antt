-- The mark of many keys, or the key's own.
use borrow.Author.Tests.{eq-eqb, ne_eqb}
use Rattle.texts.specs.Keys.{may_be_marked}
use Rattle.texts.proofs.keys.may_be_marked.Goals as goal

pub returns-then-x : goal.returns-then-x
unfolding may_be_marked
returns-then-x c = simp (eq-eqb _ _ c.if-x.true)

pub returns-else-x : goal.returns-else-x
unfolding may_be_marked
returns-else-x c = simp (ne_eqb _ _ c.if-x.false)
