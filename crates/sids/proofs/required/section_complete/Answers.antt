-- Both are found.
use mathlib.Core.Path.{◌∙◌}
use Rattle.model.specs.Image.{tree_of}
use Rattle.model.specs.Containment.{found}
use Rattle.model.proofs.Joins.{and_done, and_on}
use Rattle.types.proofs.Missing.{is_there}
use Rattle.sids.proofs.required.section_complete.Goals as goal

pub returns-then-is_some : goal.returns-then-is_some
unfolding found tree_of
returns-then-is_some c =
    and_on (c.is_some.ensures ∙ is_there _ _ c.range_of.ensures) c.if-is_some.true (c.is_some-then-is_some.ensures ∙ is_there _ _ c.connectivity_of.ensures)

pub returns-else-is_some : goal.returns-else-is_some
unfolding found tree_of
returns-else-is_some c = c.if-is_some.false ∙ and_done _ (c.is_some.ensures ∙ is_there _ _ c.range_of.ensures) c.if-is_some.false
