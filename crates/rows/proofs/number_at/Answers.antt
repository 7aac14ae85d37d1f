-- Each width's branch reads a word of that width, which lies inside the bytes.
use Rattle.model.specs.Corner.{number_at}
use Rattle.words.proofs.Signed.{eight}
use Rattle.rows.proofs.number_at.Goals as goal
use Rattle.rows.proofs.number_at.Goals.{Else-width-eq4, Then-width-eq4}

pub returns-then-width-eq4 : goal.returns-then-width-eq4
unfolding number_at
returns-then-width-eq4 c = rw c.if-width-eq4.true c.u32_at.ensures.0

pub returns-else-width-eq4 : goal.returns-else-width-eq4
unfolding number_at
returns-else-width-eq4 c = rw (eight _ c.requires.0.wide c.if-width-eq4.false) c.u64_at.ensures
