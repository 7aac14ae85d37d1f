-- The start is the sum so far, and the size fits what the total leaves.
use native.Mathlib.Omega.{arith}
use borrow.Author.Tests.{eq-eqb, ne_eqb}
use Rattle.table.proofs.Laws.{within_rest}
use Rattle.table.proofs.sizes.run_lawful.Goals as goal

pub returns-then-start-sum : goal.returns-then-start-sum
returns-then-start-sum c = simp (ne_eqb _ _ c.if-start-sum.true)

pub returns : goal.returns
returns c =
    let a = c.args in rw (eq-eqb _ _ c.if-start-sum.false) (within_rest a.sum a.size a.total (omega arith))
