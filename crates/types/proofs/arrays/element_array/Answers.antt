-- One of the two names.
use mathlib.Core.Path.{◌∙◌}
use Rattle.model.specs.Bytes.{text}
use Rattle.model.specs.Values.{element_array}
use Rattle.model.proofs.Joins.{or_done, or_on}
use Rattle.labels.specs.Padded.{known_names}
use Rattle.types.proofs.arrays.element_array.Goals as goal

pub returns-then-name_is : goal.returns-then-name_is
unfolding element_array known_names text
returns-then-name_is c = c.if-name_is.true ∙ or_done _ c.name_is.ensures c.if-name_is.true

pub returns-else-name_is : goal.returns-else-name_is
unfolding element_array known_names text
returns-else-name_is c = or_on c.name_is.ensures c.if-name_is.false c.name_is-else-name_is.ensures
