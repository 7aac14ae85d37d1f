-- The quotient of the limit bounds the next factor.
use native.Mathlib.Omega.{arith}
use borrow.Author.Tests.{eq-eqb, ne_eqb}
use Rattle.table.proofs.Laws.{product_fits, nothing_fits}
use Rattle.table.proofs.sizes.product_fits.Goals as goal

pub returns-then-d-eq0 : goal.returns-then-d-eq0
returns-then-d-eq0 c = simp (eq-eqb _ _ c.if-d-eq0.true)

pub returns-then-m-eq0 : goal.returns-then-m-eq0
returns-then-m-eq0 c =
    let a = c.args in rw (ne_eqb _ _ c.if-d-eq0.false) (nothing_fits a.m a.d a.limit c.if-m-eq0.true)

pub nonzero_div-result : goal.nonzero_div-result
nonzero_div-result c = omega (arith, c.if-m-eq0.false)

pub returns : goal.returns
returns c =
    let a = c.args in rw (ne_eqb _ _ c.if-d-eq0.false) (product_fits a.m a.d a.limit c.if-m-eq0.false)
