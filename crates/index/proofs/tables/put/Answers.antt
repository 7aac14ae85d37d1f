-- A place that holds no node is a multiple of 4,096.
use native.Mathlib.Omega.{arith}
use borrow.Author.Tests.{eq-eqb, ne_eqb}
use Rattle.index.proofs.tables.put.Goals as goal

pub returns-then-x-eq0 : goal.returns-then-x-eq0
returns-then-x-eq0 c = rw (eq-eqb _ 0 c.if-x-eq0.true)

pub returns-else-x-eq0 : goal.returns-else-x-eq0
returns-else-x-eq0 c = rw (ne_eqb _ 0 c.if-x-eq0.false)

pub overflow_add-index : goal.overflow_add-index
overflow_add-index c = omega
    (arith, c.if-x-eq0.true, c.slice_known-1.given c.args.at)
