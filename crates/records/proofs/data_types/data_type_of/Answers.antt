-- It is the data type of the node in the image's table.
use mathlib.Core.Path.{◌∙◌}
use Rattle.model.proofs.SameNodes.{same-type}
use Rattle.records.proofs.Tables.{image-node}
use Rattle.records.proofs.data_types.data_type_of.Goals as goal

pub returns : goal.returns
returns c =
    let e = image-node _ c.requires c.node_table.ensures.0 in
    (c.data_type_of.ensures.0 ∙ same-type _ _ _ e, c.data_type_of.ensures.1)
