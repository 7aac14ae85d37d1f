-- IndexDimension tells the first dimension.
use Rattle.types.proofs.lawful.zone_shape.Goals as goal

pub returns : goal.returns
returns c = rw c.index_dimension.ensures.0 at c.whole_shaped.ensures
