-- The data type, then the number of dimensions.
use mathlib.Core.Path.{◌∙◌}
use Rattle.model.specs.Values.{zone_type_shape}
use Rattle.model.proofs.Joins.{and_done, and_on}
use Rattle.types.proofs.shapes.text_shape.Goals as goal

pub returns-then-typed : goal.returns-then-typed
unfolding zone_type_shape
returns-then-typed c = and_on c.typed.ensures c.if-typed.true c.flat.ensures

pub returns-else-typed : goal.returns-else-typed
unfolding zone_type_shape
returns-else-typed c = c.if-typed.false ∙ and_done _ c.typed.ensures c.if-typed.false
