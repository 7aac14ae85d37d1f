-- The whole is the rest from start offset k on, which is at hand and not negative.
use mathlib.Core.Path.{sym, ◌∙◌}
use native.Mathlib.Omega.{arith}
use Rattle.model.proofs.Loops.{every_done}
use Rattle.elements.proofs.Offsets.{rising_start, rising_on, rising_off}
use Rattle.elements.proofs.lengths.all_rise.Goals as goal

pub loop-k-init : goal.loop-k-init
loop-k-init c = rising_start c.requires.width_value.0

pub returns-then-not-rises : goal.returns-then-not-rises
returns-then-not-rises c =
    rising_off c.loop-k.invariant c.number_at-next.ensures (omega arith)
    (sym c.rises.ensures ∙ c.if-not-rises.true)

pub loop-k-preserved : goal.loop-k-preserved
loop-k-preserved c =
    rising_on c.loop-k.invariant c.number_at-next.ensures (omega arith)
    (sym c.rises.ensures ∙ c.if-not-rises.false)

pub returns : goal.returns
returns c = every_done c.loop-k.invariant.left (omega arith)

pub rises-requires : goal.rises-requires
rises-requires c =
    ((c.requires.numbers.0.wide, c.loop-k.invariant.low), c.requires.width_value.1)
