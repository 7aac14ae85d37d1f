-- They are the numbers of the node in the image's table.
use mathlib.Core.Path.{◌∙◌}
use Rattle.model.proofs.SameNodes.{same-parent}
use Rattle.records.proofs.Tables.{image-node}
use Rattle.records.proofs.RecordNumbers.read.Goals as goal

pub returns : goal.returns
returns c =
    let e = image-node _ c.requires c.node_table.ensures.0 in
    c.numbers.ensures ∙ rw (e, same-parent _ _ _ e)
