-- Two tests, one after the other.
use borrow.Author.Tests.{eq-eqb, ne_eqb}
use Rattle.table.proofs.stages.sums_match.Goals as goal

pub returns-then-words-dimensions : goal.returns-then-words-dimensions
returns-then-words-dimensions c = simp (ne_eqb _ _ c.if-words-dimensions.true)

pub returns : goal.returns
returns c = simp (eq-eqb _ _ c.if-words-dimensions.false)
