-- The ranges of the nodes before i are gathered.
use Rattle.ranges.proofs.Gathering.{gathered_start}
use Rattle.section_data.proofs.TableLaws.{table_by}
use native.Mathlib.Omega.{arith}
use Rattle.section_data.proofs.element_ranges.gather.Goals as goal

pub loop-i-init : goal.loop-i-init
loop-i-init c = gathered_start _ _ _ _ _

pub returns : goal.returns
returns c =
    table_by c.requires.index.0.sound _ c.requires.index.1 c.loop-i.invariant
    (omega (arith, c.node_count-nodes.ensures.0))
