-- The tests in their order.
use borrow.Author.Tests.{eq-eqb, ne_eqb}
use Rattle.name_order.specs.Order.{right_at}
use Rattle.name_order.proofs.is_right_at.Goals as goal

pub returns-then-node_at-i : goal.returns-then-node_at-i
unfolding right_at
returns-then-node_at-i c = rw (← c.node_at.ensures.0, ← c.node_at-2.ensures.0, ne_eqb _ _ c.if-node_at-i.true)

pub returns-then-i-eq0 : goal.returns-then-i-eq0
unfolding right_at
returns-then-i-eq0 c =
    rw (← c.node_at.ensures.0, ← c.node_at-2.ensures.0, eq-eqb _ _ c.if-node_at-i.false, eq-eqb _ _ c.if-i-eq0.true)

pub returns : goal.returns
unfolding right_at
returns c =
    rw (
      ← c.node_at.ensures.0,
      ← c.node_at-2.ensures.0,
      eq-eqb _ _ c.if-node_at-i.false,
      ne_eqb _ _ c.if-i-eq0.false,
      ← c.node_at-3.ensures.0,
      ← c.node_at-4.ensures.0,
    ) c.comes_before.ensures
