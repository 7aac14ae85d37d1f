-- A list of two data types.
use mathlib.Core.Bool.{or-false}
use borrow.Author.Tests.{eq-eqb, ne_eqb}
use Rattle.model.specs.Lists.{among}
use Rattle.model.specs.Values.{typed}
use Rattle.types.proofs.shapes.typed_either.Goals as goal

pub returns-then-d-a : goal.returns-then-d-a
unfolding typed among
returns-then-d-a c = rw (← c.data_type_of-d.ensures.0, eq-eqb _ _ c.if-d-a.true)

pub returns-else-d-a : goal.returns-else-d-a
unfolding typed among
returns-else-d-a c = rw (← c.data_type_of-d.ensures.0, or-false _, ne_eqb _ _ c.if-d-a.false)
