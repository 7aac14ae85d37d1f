-- The number read, where it is below the count.
use native.Mathlib.Omega.{arith}
use borrow.Author.Tests.{lt-ltb, le-ltb}
use Rattle.name_order.specs.Order.{node_at}
use Rattle.name_order.proofs.node_at.Goals as goal

pub overflow_cast-x : goal.overflow_cast-x
overflow_cast-x c = omega (arith, c.type_inv.order c.args.k)

pub returns-then-x-count : goal.returns-then-x-count
unfolding node_at
returns-then-x-count c = (rw (lt-ltb _ _ c.if-x-count.true), omega arith)

pub returns-else-x-count : goal.returns-else-x-count
unfolding node_at
returns-else-x-count c = (rw (le-ltb _ _ c.if-x-count.false), omega arith)
