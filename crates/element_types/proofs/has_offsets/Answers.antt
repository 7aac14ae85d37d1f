-- The three tests are those of the definition.
use borrow.Author.Tests.{ne_eqb, eq-eqb}
use Rattle.model.specs.Elements.{has_offsets}
use Rattle.element_types.proofs.has_offsets.Goals as goal

pub returns-then-element_type-eq-MIXED : goal.returns-then-element_type-eq-MIXED
unfolding has_offsets
returns-then-element_type-eq-MIXED c = rw (eq-eqb _ _ c.if-element_type-eq-MIXED.true)

pub returns : goal.returns
unfolding has_offsets
returns c = rw (ne_eqb _ _ c.if-element_type-eq-MIXED.false) c.of_any_size.ensures
