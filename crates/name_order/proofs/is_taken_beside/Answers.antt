-- The node at the place before is asked.
use borrow.Author.Tests.{eq-eqb, ne_eqb}
use Rattle.name_order.specs.Order.{taken_beside}
use Rattle.name_order.proofs.is_taken_beside.Goals as goal

pub returns-then-place-eq0 : goal.returns-then-place-eq0
unfolding taken_beside
returns-then-place-eq0 c = rw (← c.node_at-place.ensures.0, eq-eqb _ _ c.if-place-eq0.true)

pub returns : goal.returns
unfolding taken_beside
returns c =
    rw (← c.node_at-place.ensures.0, ne_eqb _ _ c.if-place-eq0.false, ← c.node_at.ensures.0) c.is_namesake.ensures
