-- The data type, then the dimensions.
use mathlib.Core.Path.{◌∙◌}
use Rattle.model.proofs.Joins.{and_done, and_on}
use Rattle.types.proofs.lawful.typed_shaped.Goals as goal

pub returns-then-typed : goal.returns-then-typed
returns-then-typed c = and_on c.typed.ensures c.if-typed.true c.shaped.ensures

pub returns-else-typed : goal.returns-else-typed
returns-else-typed c = c.if-typed.false ∙ and_done _ c.typed.ensures c.if-typed.false
