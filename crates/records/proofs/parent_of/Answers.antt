-- It is the parent of the node in the image's table.
use mathlib.Core.Path.{◌∙◌}
use Rattle.model.proofs.SameNodes.{same-parent}
use Rattle.records.proofs.Tables.{image-node}
use Rattle.records.proofs.parent_of.Goals as goal

pub returns : goal.returns
returns c =
    let e = image-node _ c.requires c.node_table.ensures.0 in
    (c.parent_of.ensures.0 ∙ same-parent _ _ _ e, c.parent_of.ensures.1)
