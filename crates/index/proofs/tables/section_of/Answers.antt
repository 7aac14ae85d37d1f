-- The parent decides, then what it is validated as.
use Rattle.model.specs.Containment.{section_of}
use Rattle.labels.proofs.Nodes.{unlike, alike}
use Rattle.index.proofs.tables.section_of.Goals as goal

pub returns-then-parent_of-z : goal.returns-then-parent_of-z
unfolding section_of
returns-then-parent_of-z c = unlike _ c.parent_of.ensures.0 c.if-parent_of-z.true

pub returns : goal.returns
unfolding section_of
returns c = alike c.parent_of.ensures.0 c.if-parent_of-z.false c.validated_as.ensures
