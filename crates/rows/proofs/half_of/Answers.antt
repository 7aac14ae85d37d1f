-- Half of the patterns of each width.
use Rattle.model.specs.Bytes.{half}
use Rattle.words.proofs.Signed.{eight}
use Rattle.rows.proofs.half_of.Goals as goal

pub returns-then-width-eq4 : goal.returns-then-width-eq4
unfolding half
returns-then-width-eq4 c = rw c.if-width-eq4.true

pub returns-else-width-eq4 : goal.returns-else-width-eq4
unfolding half
returns-else-width-eq4 c = rw (eight _ c.requires c.if-width-eq4.false)
