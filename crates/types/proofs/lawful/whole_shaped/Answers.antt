-- The data type, then the dimensions.
use mathlib.Core.Path.{◌∙◌}
use Rattle.model.proofs.Joins.{and_done, and_on}
use Rattle.types.proofs.lawful.whole_shaped.Goals as goal

pub returns-then-typed_either : goal.returns-then-typed_either
returns-then-typed_either c = and_on c.typed_either.ensures c.if-typed_either.true c.shaped.ensures

pub returns-else-typed_either : goal.returns-else-typed_either
returns-else-typed_either c = c.if-typed_either.false ∙ and_done _ c.typed_either.ensures c.if-typed_either.false
