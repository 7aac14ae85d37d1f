-- Each row is what the keys give, digit by digit.
use mathlib.Core.Path.{refl, ap}
use mathlib.Core.List.{[], ◌∷◌}
use Rattle.model.specs.Lists.{every_from, among, row}
use Rattle.labels.proofs.Arms.{row_of, row-rest}
use Rattle.labels.specs.Roles.{role_number}
use Rattle.labels.specs.declared.roles.Role.TheVariants as v
use Rattle.labels.proofs.Numbers.{role_few, not_role}
use Rattle.index.specs.Keys.{slot_keys, key_at}
use Rattle.index.proofs.keys.slot_keys.Goals as goal

pub returns-in-Zone : goal.returns-in-Zone
unfolding every_from among row slot_keys key_at
returns-in-Zone c = row_of key_at 4 3 _ refl (ap role_number c.in-Zone.is)

pub returns-in-GridCoordinates : goal.returns-in-GridCoordinates
unfolding every_from among row slot_keys key_at
returns-in-GridCoordinates c = row_of key_at 4 5 _ refl (ap role_number c.in-GridCoordinates.is)

pub returns-in-FlowSolution : goal.returns-in-FlowSolution
unfolding every_from among row slot_keys key_at
returns-in-FlowSolution c = row_of key_at 4 6 _ refl (ap role_number c.in-FlowSolution.is)

pub returns-in-Elements : goal.returns-in-Elements
unfolding every_from among row slot_keys key_at
returns-in-Elements c = row_of key_at 4 7 _ refl (ap role_number c.in-Elements.is)

pub returns-in_default : goal.returns-in_default
unfolding every_from among row slot_keys key_at
returns-in_default c =
    let o = not_role c.args.above in
    let d = c.in_default in
    row-rest key_at 4 _ (7 ∷ 6 ∷ 5 ∷ 3 ∷ []) refl (role_few c.args.above).1
    ((((tt, o v.Zone d.not-Zone), o v.GridCoordinates d.not-GridCoordinates), o v.FlowSolution d.not-FlowSolution), o v.Elements d.not-Elements)
