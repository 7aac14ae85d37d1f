-- The test is that of the definition.
use mathlib.Core.Path.{sym, ◌∙◌}
use Rattle.references.proofs.nodes.past_within.Goals as goal

pub returns-then-is_within : goal.returns-then-is_within
returns-then-is_within c = rw (sym c.is_within.ensures ∙ c.if-is_within.true)

pub returns : goal.returns
returns c = rw (sym c.is_within.ensures ∙ c.if-is_within.false)
