-- It is the dimension of the node in the image's table.
use native.Mathlib.Omega.{arith}
use mathlib.Core.Path.{sym, ◌∙◌}
use Rattle.records.proofs.Places.{node-count-at}
use Rattle.records.proofs.Tables.{image_records}
use Rattle.records.proofs.data.dimension.Goals as goal

pub dimension-requires : goal.dimension-requires
dimension-requires c =
    let n = c.u32_at-count.ensures.0 ∙ sym (node-count-at c.args.image.now) in
    let e = (image_records _ c.requires.laid.0 c.args.i c.node_table.ensures.0 n).0 in
    rw e (record { has_record = ((omega arith, omega arith), (omega arith, omega arith)); k_bound = omega arith; i_in_bounds = omega arith })

pub returns : goal.returns
returns c =
    let n = c.u32_at-count.ensures.0 ∙ sym (node-count-at c.args.image.now) in
    rw (image_records _ c.requires.laid.0 c.args.i c.node_table.ensures.0 n).1 at c.dimension.ensures
