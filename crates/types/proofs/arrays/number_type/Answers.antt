-- Four data types, two by two.
use mathlib.Core.Path.{◌∙◌}
use Rattle.model.proofs.Joins.{or_done, or_on}
use Rattle.types.proofs.StoredNumbers.{four_types}
use Rattle.types.proofs.arrays.number_type.Goals as goal

pub returns-then-typed_either : goal.returns-then-typed_either
returns-then-typed_either c = rw (four_types _ _ _ _ _ _) (c.if-typed_either.true ∙ or_done _ c.typed_either.ensures c.if-typed_either.true)

pub returns-else-typed_either : goal.returns-else-typed_either
returns-else-typed_either c = rw (four_types _ _ _ _ _ _) (or_on c.typed_either.ensures c.if-typed_either.false c.typed_either-else-typed_either.ensures)
