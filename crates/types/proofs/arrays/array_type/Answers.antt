-- What the array stands under decides.
use mathlib.Core.Path.{sym, ap, ◌∙◌}
use borrow.Author.Tests.{ne_eqb}
use Rattle.model.specs.Lists.{row}
use Rattle.model.specs.Values.{array_type}
use Rattle.labels.specs.Roles.{role_number}
use Rattle.labels.specs.declared.roles.Role.TheVariants as v
use Rattle.labels.proofs.Numbers.{not_role}
use Rattle.types.proofs.arrays.array_type.Goals as goal

pub role_of-role-requires : goal.role_of-role-requires
role_of-role-requires c =
    record { index = (c.requires.index.0, rw c.parent_of.ensures.0 c.requires.i_bound.0); i_value = rw c.parent_of.ensures.0 c.requires.i_bound.1 }

pub returns-in-GridCoordinates : goal.returns-in-GridCoordinates
unfolding array_type row
returns-in-GridCoordinates c =
    rw (← c.parent_of.ensures.0, sym c.role_of-role.ensures ∙ ap role_number c.in-GridCoordinates.is) c.typed_either.ensures

pub returns-in-FlowSolution : goal.returns-in-FlowSolution
unfolding array_type row
returns-in-FlowSolution c =
    rw (← c.parent_of.ensures.0, sym c.role_of-role.ensures ∙ ap role_number c.in-FlowSolution.is) c.number_type.ensures

pub returns-in-Elements : goal.returns-in-Elements
unfolding array_type row
returns-in-Elements c =
    rw (← c.parent_of.ensures.0, sym c.role_of-role.ensures ∙ ap role_number c.in-Elements.is) c.section_array_type.ensures

pub returns-in_default : goal.returns-in_default
unfolding array_type row
returns-in_default c =
    rw (← c.parent_of.ensures.0, ← c.role_of-role.ensures, ne_eqb _ 5 (not_role _ v.GridCoordinates c.in_default.not-GridCoordinates), ne_eqb _ 6 (not_role _ v.FlowSolution c.in_default.not-FlowSolution), ne_eqb _ 7 (not_role _ v.Elements c.in_default.not-Elements))
