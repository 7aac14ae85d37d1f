-- The data type is that of its two bytes.
use Rattle.model.specs.Image.{data_type_of}
use Rattle.records.proofs.nodes.data_type_of.Goals as goal

pub returns : goal.returns
unfolding data_type_of
returns c = (rw c.type_code.ensures.0 c.by_code.ensures.0, c.by_code.ensures.1)
