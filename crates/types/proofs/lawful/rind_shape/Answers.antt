-- IndexDimension of the zone two above tells the one dimension.
use Rattle.types.proofs.lawful.rind_shape.Goals as goal

pub returns : goal.returns
returns c = rw c.dimension_above.ensures.0 at c.typed_shaped.ensures
