-- No dimension for MT, 1 to 12 for another type.
use borrow.Author.Tests.{eq-eqb, ne_eqb}
use Rattle.table.proofs.sizes.rank_lawful.Goals as goal

pub returns-then-data_type-eq-MT : goal.returns-then-data_type-eq-MT
returns-then-data_type-eq-MT c = simp (eq-eqb _ _ c.if-data_type-eq-MT.true)

pub returns : goal.returns
returns c = simp (ne_eqb _ _ c.if-data_type-eq-MT.false) c.is_within.ensures
