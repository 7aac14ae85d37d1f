-- The role decides.
use mathlib.Core.Path.{◌≡◌, refl, sym, ap, ◌∙◌}
use mathlib.Core.Bool.{false}
use mathlib.Core.Logic.{⊎_elim}
use lib.Dec.{eqb}
use Rattle.model.specs.Lists.{row}
use Rattle.model.specs.Image.{tree_of}
use Rattle.model.specs.Containment.{role, Root}
use Rattle.model.specs.Values.{type_lawful, zone_type_shape}
use Rattle.labels.specs.Roles.{role_number}
use Rattle.labels.specs.declared.roles.Role.{Role}
use Rattle.labels.specs.declared.roles.Role.TheVariants as v
use Rattle.types.specs.Given.{HeldContext}
use Rattle.types.proofs.Roles.{held-inside, held_context}
use Rattle.types.proofs.lawful.type_lawful.Goals as goal
use Rattle.types.proofs.lawful.type_lawful.Goals.{After-role_of-role}

-- the role of an arm
module _ (c : After-role_of-role) where
  role-is : {r : Role} → c.role_of-role.result ≡ r → role (tree_of c.args.image.now) c.args.i ≡ role_number r
  role-is e = sym c.role_of-role.ensures ∙ ap role_number e

pub zone_shape-requires : goal.zone_shape-requires
zone_shape-requires c = let p = c.requires in (p.0, p.1.zone (role-is (goal.at.zone_shape-requires c).After-role_of-role c.in-Zone.is))

pub rind_shape-requires : goal.rind_shape-requires
rind_shape-requires c =
    let r = c.requires.1 in
    let e = role-is (goal.at.rind_shape-requires c).After-role_of-role c.in-Rind.is in
    ((c.requires.0, held-inside c.args.image.now c.requires.0.sound c.args.i r.inside 9 e refl), (r.inside, r.rind e))

-- under which node it stands
module _ (c : After-role_of-role) where
  under : {r : Role} → c.role_of-role.result ≡ r → eqb (role_number r) Root ≡ false → HeldContext c.args.image.now c.args.i
  under {r} e n = held_context _ c.requires.0.sound c.args.i c.requires.1 (role_number r) (role-is c e) n

pub range_shape-requires : goal.range_shape-requires
range_shape-requires c = let p = c.requires in ((p.0, p.1.inside), under (goal.at.range_shape-requires c).After-role_of-role c.in-IndexRange.is refl)

pub list_shape-requires : goal.list_shape-requires
list_shape-requires c = let p = c.requires in ((p.0, p.1.inside), under (goal.at.list_shape-requires c).After-role_of-role c.in-IndexArray.is refl)

pub array_type-requires : goal.array_type-requires
array_type-requires c =
    let p = c.requires in
    let u = under (goal.at.array_type-requires c).After-role_of-role c.in-DataArray.is refl in
    record { index = (p.0, p.1.inside); i_bound = (u.above, u.above-validated) }

pub role_of-role-requires : goal.role_of-role-requires
unfolding type_lawful row zone_type_shape
role_of-role-requires c = let p = c.requires in record { index = (p.0, p.1.inside); i_value = p.1.is-validated }

pub returns-in-LibraryVersion : goal.returns-in-LibraryVersion
unfolding type_lawful row zone_type_shape
returns-in-LibraryVersion c = rw (role-is (goal.at.returns-in-LibraryVersion c).After-role_of-role c.in-LibraryVersion.is) c.typed_shaped.ensures

pub returns-in-Base : goal.returns-in-Base
unfolding type_lawful row zone_type_shape
returns-in-Base c = ⊎_elim (λ e. rw (role-is (goal.at.returns-in-Base c).After-role_of-role {r = v.Base} e) c.typed_shaped-in-Base.ensures)
    (λ e. rw (role-is (goal.at.returns-in-Base c).After-role_of-role {r = v.Elements} e) c.typed_shaped-in-Base.ensures) c.in-Base.is

pub returns-in-Zone : goal.returns-in-Zone
unfolding type_lawful row zone_type_shape
returns-in-Zone c = rw (role-is (goal.at.returns-in-Zone c).After-role_of-role c.in-Zone.is) c.zone_shape.ensures

pub returns-in-ZoneType : goal.returns-in-ZoneType
unfolding type_lawful row zone_type_shape
returns-in-ZoneType c = ⊎_elim (λ e. rw (role-is (goal.at.returns-in-ZoneType c).After-role_of-role {r = v.ZoneType} e) c.text_shape.ensures)
    (⊎_elim (λ e. rw (role-is (goal.at.returns-in-ZoneType c).After-role_of-role {r = v.GridLocation} e) c.text_shape.ensures)
    (λ e. rw (role-is (goal.at.returns-in-ZoneType c).After-role_of-role {r = v.Descriptor} e) c.text_shape.ensures)) c.in-ZoneType.is

pub returns-in-GridCoordinates : goal.returns-in-GridCoordinates
unfolding type_lawful row zone_type_shape
returns-in-GridCoordinates c = ⊎_elim (λ e. rw (role-is (goal.at.returns-in-GridCoordinates c).After-role_of-role {r = v.GridCoordinates} e) c.typed.ensures)
    (λ e. rw (role-is (goal.at.returns-in-GridCoordinates c).After-role_of-role {r = v.UserDefinedData} e) c.typed.ensures) c.in-GridCoordinates.is

pub returns-in-FlowSolution : goal.returns-in-FlowSolution
unfolding type_lawful row zone_type_shape
returns-in-FlowSolution c = ⊎_elim (λ e. rw (role-is (goal.at.returns-in-FlowSolution c).After-role_of-role {r = v.FlowSolution} e) c.typed-in-FlowSolution.ensures)
    (λ e. rw (role-is (goal.at.returns-in-FlowSolution c).After-role_of-role {r = v.Root} e) c.typed-in-FlowSolution.ensures) c.in-FlowSolution.is

pub returns-in-IndexRange : goal.returns-in-IndexRange
unfolding type_lawful row zone_type_shape
returns-in-IndexRange c = rw (role-is (goal.at.returns-in-IndexRange c).After-role_of-role c.in-IndexRange.is) c.range_shape.ensures

pub returns-in-Rind : goal.returns-in-Rind
unfolding type_lawful row zone_type_shape
returns-in-Rind c = rw (role-is (goal.at.returns-in-Rind c).After-role_of-role c.in-Rind.is) c.rind_shape.ensures

pub returns-in-DataArray : goal.returns-in-DataArray
unfolding type_lawful row zone_type_shape
returns-in-DataArray c = rw (role-is (goal.at.returns-in-DataArray c).After-role_of-role c.in-DataArray.is) c.array_type.ensures

pub returns-in-IndexArray : goal.returns-in-IndexArray
unfolding type_lawful row zone_type_shape
returns-in-IndexArray c = rw (role-is (goal.at.returns-in-IndexArray c).After-role_of-role c.in-IndexArray.is) c.list_shape.ensures
