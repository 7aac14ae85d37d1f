-- The role decides.
use mathlib.Core.Path.{◌≡◌, sym, ap, ◌∙◌}
use borrow.Author.Tests.{ne_eqb}
use Rattle.model.specs.Lists.{row}
use Rattle.model.specs.Image.{tree_of}
use Rattle.model.specs.Containment.{role}
use Rattle.model.specs.Values.{value_lawful, base_value}
use Rattle.index.proofs.Marking.{kind-role}
use Rattle.types.proofs.Roles.{base-has, elements-has, rind_four, rind-flat}
use Rattle.labels.specs.Roles.{role_number}
use Rattle.labels.specs.declared.roles.Role.{Role}
use Rattle.labels.specs.declared.roles.Role.TheVariants as v
use Rattle.labels.proofs.Numbers.{not_role}
use Rattle.sids.proofs.permitted.value_lawful.Goals as goal
use Rattle.sids.proofs.permitted.value_lawful.Goals.{After-role_of-role}

-- the role of an arm
module _ (c : After-role_of-role) where
  role-is : {r : Role} → c.role_of-role.result ≡ r → role (tree_of c.args.image.now) c.args.i ≡ role_number r
  role-is e = sym c.role_of-role.ensures ∙ ap role_number e

pub pair_within-requires : goal.pair_within-requires
pair_within-requires c =
    let s = c.requires.0.0.sound in
    (s, base-has c.args.image.now s c.args.i c.requires.0.1.inside (role-is (goal.at.pair_within-requires c).After-role_of-role c.in-Base.is) c.requires.1)

pub zone_value-requires : goal.zone_value-requires
zone_value-requires c =
    let e = role-is (goal.at.zone_value-requires c).After-role_of-role c.in-Zone.is in
    (c.requires.0.0, record { based = c.requires.0.1.zone e; zone = e; type = c.requires.1 })

pub not_negative-requires : goal.not_negative-requires
not_negative-requires c =
    let s = c.requires.0.0.sound in
    (s, elements-has c.args.image.now s c.args.i c.requires.0.1.inside (role-is (goal.at.not_negative-requires c).After-role_of-role c.in-Elements.is) c.requires.1)

pub not_both-requires : goal.not_both-requires
not_both-requires c =
    let p = c.requires.0 in
    record { index = (p.0, p.1.inside); p_value = kind-role _ _ p.1.is-validated (role-is (goal.at.not_both-requires c).After-role_of-role c.in-FlowSolution.is) }

pub index_range_value-requires : goal.index_range_value-requires
index_range_value-requires c = record { index = c.requires; i_value = role-is (goal.at.index_range_value-requires c).After-role_of-role c.in-IndexRange.is }

pub rind_value-requires : goal.rind_value-requires
rind_value-requires c =
    let t = tree_of c.args.image.now in
    let e = role-is (goal.at.rind_value-requires c).After-role_of-role c.in-Rind.is in
    record { sound = (c.requires.0.0.sound, c.requires.0.1.inside); i_value = (rind_four t c.args.i e c.requires.1, rind-flat t c.args.i e c.requires.1) }

pub returns-in_default : goal.returns-in_default
unfolding value_lawful row
returns-in_default c =
    let o = not_role c.role_of-role.result in
    let d = c.in_default in
    rw (← c.role_of-role.ensures, ne_eqb _ 2 (o v.Base d.not-Base), ne_eqb _ 3 (o v.Zone d.not-Zone), ne_eqb _ 4 (o v.ZoneType d.not-ZoneType))
    (rw (
      ne_eqb _ 6 (o v.FlowSolution d.not-FlowSolution),
      ne_eqb _ 7 (o v.Elements d.not-Elements),
      ne_eqb _ 8 (o v.IndexRange d.not-IndexRange),
      ne_eqb _ 9 (o v.Rind d.not-Rind),
      ne_eqb _ 10 (o v.GridLocation d.not-GridLocation),
    ))

pub role_of-role-requires : goal.role_of-role-requires
unfolding value_lawful row base_value
role_of-role-requires c = let p = c.requires.0 in record { index = (p.0, p.1.inside); i_value = p.1.is-validated }

pub returns-in-Base : goal.returns-in-Base
unfolding value_lawful row base_value
returns-in-Base c = rw (role-is (goal.at.returns-in-Base c).After-role_of-role c.in-Base.is) c.pair_within.ensures

pub returns-in-Zone : goal.returns-in-Zone
unfolding value_lawful row base_value
returns-in-Zone c = rw (role-is (goal.at.returns-in-Zone c).After-role_of-role c.in-Zone.is) c.zone_value.ensures

pub returns-in-ZoneType : goal.returns-in-ZoneType
unfolding value_lawful row base_value
returns-in-ZoneType c = rw (role-is (goal.at.returns-in-ZoneType c).After-role_of-role c.in-ZoneType.is) c.zone_type_value.ensures

pub returns-in-FlowSolution : goal.returns-in-FlowSolution
unfolding value_lawful row base_value
returns-in-FlowSolution c = rw (role-is (goal.at.returns-in-FlowSolution c).After-role_of-role c.in-FlowSolution.is) c.not_both.ensures

pub returns-in-Elements : goal.returns-in-Elements
unfolding value_lawful row base_value
returns-in-Elements c = rw (role-is (goal.at.returns-in-Elements c).After-role_of-role c.in-Elements.is) c.not_negative.ensures

pub returns-in-IndexRange : goal.returns-in-IndexRange
unfolding value_lawful row base_value
returns-in-IndexRange c = rw (role-is (goal.at.returns-in-IndexRange c).After-role_of-role c.in-IndexRange.is) c.index_range_value.ensures

pub returns-in-Rind : goal.returns-in-Rind
unfolding value_lawful row base_value
returns-in-Rind c = rw (role-is (goal.at.returns-in-Rind c).After-role_of-role c.in-Rind.is) c.rind_value.ensures

pub returns-in-GridLocation : goal.returns-in-GridLocation
unfolding value_lawful row base_value
returns-in-GridLocation c = rw (role-is (goal.at.returns-in-GridLocation c).After-role_of-role c.in-GridLocation.is) c.location_value.ensures
