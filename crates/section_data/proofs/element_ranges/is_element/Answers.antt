-- No node before i brings the element to the zone.
use mathlib.Core.Path.{sym, ◌∙◌}
use native.Mathlib.Omega.{arith}
use Rattle.model.proofs.Loops.{some_more, some_stop, some-done}
use Rattle.section_data.proofs.RangeLaws.{element_by}
use Rattle.section_data.proofs.element_ranges.is_element.Goals as goal

pub returns-then-has_element : goal.returns-then-has_element
returns-then-has_element c =
    element_by _ _ _ c.node_count-n.ensures.0
    (some_stop c.loop-i.invariant (omega (arith, c.loop-i-test.true)) (sym c.has_element.ensures ∙ c.if-has_element.true))

pub loop-i-preserved : goal.loop-i-preserved
loop-i-preserved c =
    some_more c.loop-i.invariant (omega (arith, c.loop-i-test.true)) (sym c.has_element.ensures ∙ c.if-has_element.false)

pub returns : goal.returns
returns c = element_by _ _ _ c.node_count-n.ensures.0 (some-done c.loop-i.invariant (omega arith))
