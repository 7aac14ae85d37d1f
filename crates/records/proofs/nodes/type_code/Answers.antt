-- The two bytes are read at the data type's place.
use native.Mathlib.Omega.{arith}
use Prim.Native.Nat.{◌+◌, ◌*◌}
use mathlib.Core.Path.{refl, ◌∙◌}
use lib.ListN.{take}
use Rattle.model.specs.Image.{Node, node_of}
use Rattle.records.proofs.Codes.{two_bytes}
use Rattle.records.proofs.Tables.{field}
use Rattle.records.proofs.nodes.type_code.Goals as goal

pub returns : goal.returns
unfolding node_of
returns c =
    let s = c.args.table.now in
    let low = c.byte_at in
    let e = two_bytes s (84 * c.args.i + 64) _ _ (omega arith) low.ensures.0 low.ensures.1 c.byte_at-2.ensures.0 in
    (field s _ _ c.requires.0 (λ (x : Node). x.data_type) (take 2) 64 (λ r. refl) ∙ e, omega arith)
