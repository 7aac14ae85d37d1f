-- The parent's role decides.
use mathlib.Core.Path.{◌≡◌, sym, ap, ◌∙◌}
use mathlib.Core.Bool.{and-false}
use mathlib.Core.List.{[], ◌∷◌}
use borrow.Author.Tests.{ne_eqb}
use Rattle.model.specs.Lists.{row}
use Rattle.model.specs.Image.{tree_of, parent, I4, I8}
use Rattle.model.specs.Containment.{role}
use Rattle.model.specs.Values.{typed, range_shape}
use Rattle.labels.specs.Roles.{role_number}
use Rattle.labels.specs.declared.roles.Role.{Role}
use Rattle.labels.specs.declared.roles.Role.TheVariants as v
use Rattle.labels.proofs.Numbers.{not_role}
use Rattle.types.proofs.lawful.range_shape.Goals as goal
use Rattle.types.proofs.lawful.range_shape.Goals.{After-dimension_above, After-role_of-above}

-- the role of the node above
module _ (c : After-role_of-above) where
  above-is : role_number c.role_of-above.result ≡ role (tree_of c.args.image.now) (parent (tree_of c.args.image.now) c.args.i)
  above-is = rw c.parent_of.ensures.0 at c.role_of-above.ensures

  above-role : {r : Role} → c.role_of-above.result ≡ r → role (tree_of c.args.image.now) (parent (tree_of c.args.image.now) c.args.i) ≡ role_number r
  above-role e = sym above-is ∙ ap role_number e

pub role_of-above-requires : goal.role_of-above-requires
role_of-above-requires c =
    let p = c.requires in
    rw c.parent_of.ensures.0 (record { index = (p.0.0, p.1.above); i_value = p.1.above-validated })

pub dimension_above-requires : goal.dimension_above-requires
dimension_above-requires c =
    let p = c.requires in
    ((p.0.0, p.1.above), (p.0.1, p.1.flow (above-role (goal.at.dimension_above-requires c).After-role_of-above c.in-FlowSolution.is)))

pub returns-in-Elements : goal.returns-in-Elements
unfolding range_shape row
returns-in-Elements c = rw (above-role (goal.at.returns-in-Elements c).After-role_of-above c.in-Elements.is) c.whole_shaped.ensures

pub returns-in-FlowSolution : goal.returns-in-FlowSolution
unfolding range_shape row
returns-in-FlowSolution c =
    let d = (goal.at.returns-in-FlowSolution c).After-dimension_above in
    rw (above-role (goal.at.returns-in-FlowSolution c).After-role_of-above d.in-FlowSolution.is) (rw d.dimension_above.ensures.0 at c.whole_shaped-in-FlowSolution.ensures)

pub returns-in_default : goal.returns-in_default
unfolding range_shape row
returns-in_default c =
    let r = c.role_of-above.result in
    let a = c.args in
    rw (← above-is (goal.at.returns-in_default c).After-role_of-above, ne_eqb (role_number r) 7 (not_role r v.Elements c.in_default.not-Elements), ne_eqb (role_number r) 6 (not_role r v.FlowSolution c.in_default.not-FlowSolution)) (sym (and-false (typed (tree_of a.image.now) a.i (I4 ∷ I8 ∷ []))))
