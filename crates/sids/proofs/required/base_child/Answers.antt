-- The parent, then the role.
use borrow.Author.Tests.{eq-eqb, ne_eqb}
use Rattle.model.specs.Values.{base_child}
use mathlib.Core.Path.{refl, ◌∙◌}
use Rattle.labels.specs.declared.roles.Role.TheVariants as v
use Rattle.labels.proofs.Numbers.{same_kind}
use Rattle.sids.proofs.required.base_child.Goals as goal

pub returns-then-parent_of-eq0 : goal.returns-then-parent_of-eq0
unfolding base_child
returns-then-parent_of-eq0 c = rw (← c.parent_of.ensures.0, ← c.role_of.ensures, eq-eqb _ 0 c.if-parent_of-eq0.true) (c.eq.ensures ∙ same_kind (λ r s. refl) c.role_of.result v.Base)

pub returns-else-parent_of-eq0 : goal.returns-else-parent_of-eq0
unfolding base_child
returns-else-parent_of-eq0 c = rw (← c.parent_of.ensures.0, ne_eqb _ 0 c.if-parent_of-eq0.false)
