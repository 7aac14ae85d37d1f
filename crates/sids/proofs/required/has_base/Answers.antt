-- What is left of the nodes decides.
use mathlib.Core.Path.{sym, ◌∙◌}
use Rattle.model.proofs.Loops.{some_more, some_stop, some-done}
use Rattle.sids.proofs.required.has_base.Goals as goal

pub returns-then-base_child : goal.returns-then-base_child
returns-then-base_child c =
    rw (← c.node_count-n.ensures.0) (some_stop c.loop-j.invariant c.loop-j-test.true
    (sym c.base_child.ensures ∙ c.if-base_child.true))

pub loop-j-preserved : goal.loop-j-preserved
loop-j-preserved c = some_more c.loop-j.invariant c.loop-j-test.true (sym c.base_child.ensures ∙ c.if-base_child.false)

pub returns : goal.returns
returns c =
    rw (← c.node_count-n.ensures.0) (some-done c.loop-j.invariant c.loop-j-test.false)
