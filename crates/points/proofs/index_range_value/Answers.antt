-- The parent's role decides.
use mathlib.Core.Path.{◌≡◌, refl, sym, ap, ◌∙◌}
use borrow.Author.Tests.{ne_eqb}
use Rattle.model.specs.Lists.{row}
use Rattle.model.specs.Image.{tree_of, parent}
use Rattle.model.specs.Containment.{role}
use Rattle.model.specs.Values.{range_value, index_range_value}
use Rattle.labels.specs.Roles.{role_number}
use Rattle.labels.specs.declared.roles.Role.TheVariants as v
use Rattle.labels.proofs.Numbers.{not_role}
use Rattle.types.specs.Given.{HeldContext}
use Rattle.types.proofs.Roles.{range-has, held_context}
use Rattle.points.proofs.index_range_value.Goals as goal
use Rattle.points.proofs.index_range_value.Goals.{After-parent_of, After-role_of-above}

-- the node above
module _ (c : After-parent_of) where
  held : HeldContext c.args.image.now c.args.i
  held = held_context _ c.requires.index.0.0.sound c.args.i c.requires.index.0.1 8 c.requires.i_value refl

-- its role
module _ (c : After-role_of-above) where
  above-is : role_number c.role_of-above.result
      ≡ role (tree_of c.args.image.now) (parent (tree_of c.args.image.now) c.args.i)
  above-is = rw c.parent_of.ensures.0 at c.role_of-above.ensures

pub role_of-above-requires : goal.role_of-above-requires
role_of-above-requires c = rw c.parent_of.ensures.0 (record { index = (c.requires.index.0.0, (held c).above); i_value = (held c).above-validated })

pub pair_within-requires : goal.pair_within-requires
pair_within-requires c =
    let r = (goal.at.pair_within-requires c).After-role_of-above in
    (r.requires.index.0.0.sound, range-has r.args.image.now r.requires.index.0.0.sound r.args.i r.requires.index.0.1.inside r.requires.i_value (sym (above-is r) ∙ ap role_number c.in-Elements.is) r.requires.index.1)

pub point_range_value-requires : goal.point_range_value-requires
point_range_value-requires c =
    let r = (goal.at.point_range_value-requires c).After-role_of-above in
    let h = held (goal.at.point_range_value-requires c).After-parent_of in
    let f = sym (above-is r) ∙ ap role_number c.in-FlowSolution.is in
    (r.requires.index.0.0, record { inside = r.requires.index.0.1.inside; above = h.above; based = h.flow f; flow = f; range = r.requires.i_value; type = r.requires.index.1 })

pub returns-in-Elements : goal.returns-in-Elements
unfolding index_range_value row range_value
returns-in-Elements c = rw (sym (above-is (goal.at.returns-in-Elements c).After-role_of-above) ∙ ap role_number c.in-Elements.is) c.pair_within.ensures

pub returns-in-FlowSolution : goal.returns-in-FlowSolution
unfolding index_range_value row
returns-in-FlowSolution c = rw (sym (above-is (goal.at.returns-in-FlowSolution c).After-role_of-above) ∙ ap role_number c.in-FlowSolution.is) c.point_range_value.ensures

pub returns-in_default : goal.returns-in_default
unfolding index_range_value row
returns-in_default c = rw (← above-is (goal.at.returns-in_default c).After-role_of-above, ne_eqb _ 7 (not_role _ v.Elements c.in_default.not-Elements), ne_eqb _ 6 (not_role _ v.FlowSolution c.in_default.not-FlowSolution))
