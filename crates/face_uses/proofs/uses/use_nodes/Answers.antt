-- The whole run is the rest from node i on, over the bytes that the nodes before it left.
use Prim.Native.Nat.{◌+◌, ◌-◌}
use mathlib.Core.Path.{◌∙◌}
use native.Mathlib.Omega.{arith}
use Rattle.model.specs.Image.{tree_of, node_count}
use Rattle.model.specs.FaceUsage.{use_nodes}
use Rattle.face_uses.proofs.Runs.{tables_kept, left_more, left_handed, left-done, nodes_start, nodes_step, nodes-end}
use Rattle.face_uses.proofs.uses.use_nodes.Goals as goal

pub loop-i-init : goal.loop-i-init
loop-i-init c = (c.node_count-i-end.ensures.0, nodes_start _ _ _ _ _)

pub use_entries-requires : goal.use_entries-requires
use_entries-requires c =
    record { index = ((c.requires.index.0, omega (arith, c.loop-i.invariant.0)), c.requires.index.1); tables = tables_kept c.requires.tables c.loop-i.invariant.1.long }

pub shape_of-out-in_err-use_entries : goal.shape_of-out-in_err-use_entries
shape_of-out-in_err-use_entries c =
    c.use_entries.auto.out ∙ c.loop-i.invariant.1.long

pub returns-in_err-use_entries : goal.returns-in_err-use_entries
returns-in_err-use_entries c =
    let a = c.args in
    left_handed c.loop-i.invariant.1
    (λ later. use_nodes (tree_of a.image.now) a.faces.zone (node_count a.image.now - (c.loop-i.i + 1)) (c.loop-i.i + 1) later)
    (nodes_step _ _ _ _ _ (omega (arith, c.loop-i.invariant.0))) c.use_entries.ensures c.in_err-use_entries.was _ c.from_residual.ensures.1

pub loop-i-preserved : goal.loop-i-preserved
loop-i-preserved c =
    let a = c.args in (
      c.loop-i.invariant.0,
      left_more c.loop-i.invariant.1
          (λ later. use_nodes (tree_of a.image.now) a.faces.zone (node_count a.image.now - (c.loop-i.i + 1)) (c.loop-i.i + 1) later)
          (nodes_step _ _ _ _ _ (omega (arith, c.loop-i.invariant.0))) c.use_entries.ensures c.in_ok-use_entries.was
          c.use_entries.auto.out,
    )

pub shape_of-out : goal.shape_of-out
shape_of-out c = c.loop-i.invariant.1.long

pub returns : goal.returns
returns c = left-done c.loop-i.invariant.1 (nodes-end _ _ _ _ _ (omega (arith, c.loop-i.invariant.0)))
