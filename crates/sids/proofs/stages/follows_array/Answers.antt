-- The parent first, then what the node is validated as.
use mathlib.Core.Path.{◌∙◌}
use borrow.Author.Tests.{ne_eqb}
use Rattle.labels.proofs.Nodes.{unlike, alike}
use Rattle.sids.proofs.stages.follows_array.Goals as goal

pub returns-then-parent_of-up : goal.returns-then-parent_of-up
returns-then-parent_of-up c = alike c.parent_of.ensures.0 c.if-parent_of-up.true c.validated_as.ensures

pub returns-else-parent_of-up : goal.returns-else-parent_of-up
returns-else-parent_of-up c = ne_eqb _ _ c.if-parent_of-up.false ∙ unlike _ c.parent_of.ensures.0 c.if-parent_of-up.false
