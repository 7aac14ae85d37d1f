-- Of numbers that are not negative the bits tell the order.
use native.Mathlib.Omega.{arith}
use Rattle.words.proofs.Signed.{half_is}
use Rattle.elements.proofs.Offsets.{rise-negative, rise_any, rise_by}
use Rattle.elements.proofs.lengths.rises.Goals as goal

pub returns-then-half_of-y : goal.returns-then-half_of-y
returns-then-half_of-y c = rise-negative _ _ _ c.requires.0.1 _ (rw (← c.half_of.ensures) c.if-half_of-y.true)

pub returns-then-least-eq0 : goal.returns-then-least-eq0
returns-then-least-eq0 c =
    rw c.if-least-eq0.true (rise_any _ _ _ c.requires.0.1 (rw (← c.half_of.ensures) c.if-half_of-y.false))

pub overflow_add-result : goal.overflow_add-result
overflow_add-result c = omega (arith, (half_is c.args.width c.requires.0.0).1.1)

pub returns : goal.returns
returns c =
    rise_by _ _ _ c.requires.0.1 _ c.if-least-eq0.false (rw (← c.half_of.ensures) c.if-half_of-y.false)
