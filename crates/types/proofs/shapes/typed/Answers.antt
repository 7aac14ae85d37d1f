-- A list of one data type.
use mathlib.Core.Bool.{or-false}
use Rattle.model.specs.Lists.{among}
use Rattle.model.specs.Values.{typed}
use Rattle.types.proofs.shapes.typed.Goals as goal

pub returns : goal.returns
unfolding typed among
returns c = rw (c.data_type_of.ensures.0, or-false _)
