-- It is the width of the node in the image's table.
use mathlib.Core.Path.{◌∙◌}
use Rattle.model.proofs.SameNodes.{same_width}
use Rattle.records.proofs.Tables.{image-node}
use Rattle.records.proofs.data_types.width_at.Goals as goal

pub returns : goal.returns
returns c =
    let e = image-node _ c.requires c.node_table.ensures.0 in
    (c.width_at.ensures.0 ∙ same_width _ _ _ e, c.width_at.ensures.1)
