-- The area's place and the node's within it, as rule 17 bounds them.
use native.Mathlib.Omega.{arith}
use Prim.Native.Nat.{◌<◌}
use mathlib.Core.Path.{◌≡◌}
use Rattle.model.specs.Image.{node_count, data_offset, tree_of, node}
use Rattle.model.proofs.Reading.{data_at-at}
use Rattle.model.proofs.Bounds.{node-placed}
use Rattle.records.proofs.Places.{data_offset-at, area_at_lem}
use Rattle.records.proofs.data.data_start.Goals as goal

pub returns : goal.returns
returns c =
    let b = c.args.image.now in
    let h : c.args.i < node_count b = omega arith in
    let e : c.u32_at.result ≡ (node (tree_of b) c.args.i).data_at = cc (data_at-at b c.args.i h) in
    let o : c.u32_at-area.result ≡ data_offset b = cc (data_offset-at b) in
    let r = area_at_lem b in
    let p = node-placed b c.requires.0.table c.args.i h in
    (omega arith, omega arith)
