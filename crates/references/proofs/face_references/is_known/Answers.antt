-- One of the two holds it.
use mathlib.Core.Path.{sym, ◌∙◌}
use Rattle.references.proofs.face_references.is_known.Goals as goal

pub returns-then-within : goal.returns-then-within
returns-then-within c = rw (c.if-within.true, sym c.within.ensures ∙ c.if-within.true)

pub returns-else-within : goal.returns-else-within
returns-else-within c = rw (sym c.within.ensures ∙ c.if-within.false) c.within-else-within.ensures
