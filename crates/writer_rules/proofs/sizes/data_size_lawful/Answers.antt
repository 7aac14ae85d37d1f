-- The dimensions from d on, and the product before them, decide.
use native.Mathlib.Omega.{arith}
use Prim.Native.Nat.{◌*◌}
use mathlib.Core.Path.{refl, sym, ◌∙◌}
use mathlib.Core.Bool.{not}
use lib.Dec.{eqb}
use lib.ListN.{get_or}
use borrow.Author.Tests.{leb-true}
use Rattle.model.proofs.Logic.{and_second}
use Rattle.table.proofs.Laws.{size-on, size-off, size-end, sized_by}
use Rattle.writer_rules.proofs.sizes.data_size_lawful.Goals as goal

pub returns-then-not-product_fits : goal.returns-then-not-product_fits
returns-then-not-product_fits c =
    sym (size-off c.loop-d.m _ _ c.loop-d.d-index (omega arith) refl (sym c.product_fits.ensures ∙ c.if-not-product_fits.true))
    ∙ c.loop-d.invariant
    ∙ sized_by _ _ _

pub overflow_mul-m : goal.overflow_mul-m
overflow_mul-m c =
    let d = get_or c.args.dimensions.now c.loop-d.d-index 0 in
    omega (arith, leb-true (c.loop-d.m * d) _ (and_second (not (eqb d 0)) _ (sym c.product_fits.ensures ∙ c.if-not-product_fits.false)))

pub loop-d-preserved : goal.loop-d-preserved
loop-d-preserved c =
    size-on c.loop-d.m _ _ c.loop-d.d-index (omega arith) refl (sym c.product_fits.ensures ∙ c.if-not-product_fits.false) ∙ c.loop-d.invariant

pub returns : goal.returns
returns c =
    let l = c.loop-d in sym (size-end l.m _ _ l.d-index (omega arith)) ∙ l.invariant ∙ sized_by _ _ _
