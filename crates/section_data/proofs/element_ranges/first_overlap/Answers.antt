-- No node before i meets an earlier one, and their ranges are gathered.
use mathlib.Core.Path.{sym, ◌∙◌}
use Rattle.model.proofs.Loops.{seek_start, seek_more, seek_stop, seek_done}
use Rattle.model.proofs.Found.{is_some, is_none}
use Rattle.ranges.proofs.Gathering.{gathered_start}
use native.Mathlib.Omega.{arith}
use Rattle.section_data.proofs.element_ranges.first_overlap.Goals as goal

pub loop-i-init : goal.loop-i-init
loop-i-init c = record { left = seek_start _ _ 0 (omega arith) (λ j h. absurd (omega arith)); gathered = gathered_start _ _ _ _ _ }

pub returns-then-meets_earlier : goal.returns-then-meets_earlier
returns-then-meets_earlier c =
    rw (← c.node_count-nodes.ensures.0, ← seek_stop c.loop-i.invariant.left (omega arith) (sym c.meets_earlier.ensures ∙ c.if-meets_earlier.true)) (sym (is_some (omega arith)))

pub loop-i-preserved : goal.loop-i-preserved
loop-i-preserved c = record {
  left = seek_more c.loop-i.invariant.left (omega arith) (sym c.meets_earlier.ensures ∙ c.if-meets_earlier.false);
  gathered = c.gather_node-n.ensures;
}

pub returns : goal.returns
returns c =
    rw (← c.node_count-nodes.ensures.0, ← seek_done c.loop-i.invariant.left (omega arith)) (sym (is_none (omega arith)))
