-- The tests are those of the definition.
use mathlib.Core.Path.{sym, ◌∙◌}
use borrow.Author.Tests.{eq-eqb, ne_eqb}
use Rattle.references.specs.Groups.{face_rule}
use Rattle.references.proofs.face_references.face_rule.Goals as goal

pub returns-then-f-eq0 : goal.returns-then-f-eq0
unfolding face_rule
returns-then-f-eq0 c = rw (eq-eqb _ 0 c.if-f-eq0.true)

pub returns-then-is_element : goal.returns-then-is_element
unfolding face_rule
returns-then-is_element c = rw (ne_eqb _ 0 c.if-f-eq0.false, sym c.is_element.ensures ∙ c.if-is_element.true)

pub returns : goal.returns
unfolding face_rule
returns c = rw (ne_eqb _ 0 c.if-f-eq0.false, sym c.is_element.ensures ∙ c.if-is_element.false)
