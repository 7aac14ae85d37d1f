-- The lowest node first: the whole is what is left from here.
use native.Mathlib.Omega.{arith}
use mathlib.Core.Path.{refl, sym, ◌∙◌}
use Rattle.model.specs.Image.{tree_of}
use Rattle.model.proofs.Staging.{passes, refuses, handed}
use Rattle.validation.proofs.Laws.{nodes_start, nodes-on, nodes-off, nodes-end}
use Rattle.validation.proofs.every_node.Goals as goal

pub loop-i-init : goal.loop-i-init
unfolding tree_of
loop-i-init c = (refl, nodes_start _ _ c.node_count-i-end.ensures.0)

pub node_stage-requires : goal.node_stage-requires
node_stage-requires c =
    record { nodes_to = (record { sound = c.requires.index.sound; inside = omega arith; before = c.loop-i.invariant.1.before }, c.requires.index); overlap_value = c.requires.overlap_value; faces = (c.requires.faces.0, omega (arith, c.loop-i.invariant.0)) }

pub returns-in_err-node_stage : goal.returns-in_err-node_stage
returns-in_err-node_stage c =
    let e = refuses c.node_stage.ensures c.in_err-node_stage.was in
    handed _ _ c.from_residual.ensures.1 (nodes-off c.loop-i.invariant.1 (omega arith) e)

pub loop-i-preserved : goal.loop-i-preserved
loop-i-preserved c =
    let l = c.loop-i.invariant in
    (c.node_stage.auto.levels ∙ l.0, nodes-on l.1 (omega arith) (passes c.node_stage.ensures c.in_ok-node_stage.was))

pub returns : goal.returns
returns c = sym (nodes-end c.loop-i.invariant.1 (omega arith))
