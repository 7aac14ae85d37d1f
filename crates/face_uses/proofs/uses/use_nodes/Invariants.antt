-- The whole run is the rest from node i on, over the bytes that the nodes before it left.
use Prim.Native.Nat.{◌-◌}
use mathlib.Core.Path.{◌≡◌}
use Rattle.model.specs.Image.{tree_of, node_count}
use Rattle.model.specs.FaceUsage.{face_count, use_nodes}
use Rattle.face_uses.proofs.Runs.{Left}
use Rattle.face_uses.proofs.uses.use_nodes.Given as goal

abbrev pub invariant-loop-i : goal.invariant-loop-i
invariant-loop-i l = (l.i-end ≡ node_count l.image)
    × Left (face_count (tree_of l.image) l.faces.zone) (use_nodes (tree_of l.image) l.faces.zone (node_count l.image) 0 l.initial.out) l.initial.out
    (use_nodes (tree_of l.image) l.faces.zone (node_count l.image - l.i) l.i l.out) l.out
