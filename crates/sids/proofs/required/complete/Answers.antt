-- The role decides which children are required.
use mathlib.Core.Path.{sym, ap, ◌∙◌}
use borrow.Author.Tests.{ne_eqb}
use Rattle.model.specs.Lists.{row}
use Rattle.model.specs.Image.{tree_of}
use Rattle.model.specs.Containment.{found}
use Rattle.model.specs.Values.{complete}
use Rattle.index.proofs.Marking.{kind-role}
use Rattle.types.proofs.Missing.{is_there}
use Rattle.labels.specs.Roles.{role_number}
use Rattle.labels.specs.declared.roles.Role.TheVariants as v
use Rattle.labels.proofs.Numbers.{not_role}
use Rattle.sids.proofs.required.complete.Goals as goal

pub returns-in-Root : goal.returns-in-Root
unfolding complete row tree_of
returns-in-Root c = rw (sym c.role_of-role.ensures ∙ ap role_number c.in-Root.is) c.has_base.ensures

pub returns-in-Zone : goal.returns-in-Zone
unfolding complete row found tree_of
returns-in-Zone c =
    rw (sym c.role_of-role.ensures ∙ ap role_number c.in-Zone.is) (c.is_some.ensures ∙ is_there _ _ c.zone_type_of.ensures)

pub returns-in-Elements : goal.returns-in-Elements
unfolding complete row
returns-in-Elements c = rw (sym c.role_of-role.ensures ∙ ap role_number c.in-Elements.is) c.section_complete.ensures

pub returns-in_default : goal.returns-in_default
unfolding complete row
returns-in_default c =
    rw (← c.role_of-role.ensures, ne_eqb _ 15 (not_role _ v.Root c.in_default.not-Root), ne_eqb _ 3 (not_role _ v.Zone c.in_default.not-Zone), ne_eqb _ 7 (not_role _ v.Elements c.in_default.not-Elements))

pub zone_type_of-requires : goal.zone_type_of-requires
zone_type_of-requires c = record { index = c.requires.index; z_value = kind-role _ _ c.requires.i_value (sym c.role_of-role.ensures ∙ ap role_number c.in-Zone.is) }

pub section_complete-requires : goal.section_complete-requires
section_complete-requires c = record {
  index = c.requires.index;
  s_value = kind-role _ _ c.requires.i_value
      (sym c.role_of-role.ensures ∙ ap role_number c.in-Elements.is);
}
