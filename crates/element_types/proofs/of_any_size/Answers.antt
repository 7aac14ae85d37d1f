-- The two tests are those of the contract.
use borrow.Author.Tests.{ne_eqb, eq-eqb}
use Rattle.element_types.proofs.of_any_size.Goals as goal

pub returns-then-element_type-eq-NGON : goal.returns-then-element_type-eq-NGON
returns-then-element_type-eq-NGON c = rw (eq-eqb _ _ c.if-element_type-eq-NGON.true)

pub returns-else-element_type-eq-NGON : goal.returns-else-element_type-eq-NGON
returns-else-element_type-eq-NGON c = rw (ne_eqb _ _ c.if-element_type-eq-NGON.false)
