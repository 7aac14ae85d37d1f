-- It is the record of the node in the image's table.
use mathlib.Core.Path.{◌∙◌}
use Rattle.model.proofs.SameNodes.{same_name, same-label, same-parent}
use Rattle.records.proofs.Tables.{image-node}
use Rattle.records.proofs.Record.read.Goals as goal

pub returns : goal.returns
returns c =
    let e = image-node _ c.requires c.node_table.ensures.0 in
    c.record.ensures ∙ rw (e, same_name _ _ _ e, same-label _ _ _ e, same-parent _ _ _ e)
