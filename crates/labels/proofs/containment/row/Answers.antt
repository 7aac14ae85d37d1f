-- Each row is what the placing table and the fixed names give, cell by cell.
use mathlib.Core.Path.{refl, ap}
use mathlib.Core.List.{[], ◌∷◌}
use Rattle.model.specs.Lists.{every_from, among, row}
use Rattle.model.specs.Bytes.{spells, blank, text, place_from}
use Rattle.model.specs.Containment.{may_hold, containment, fixed_name, fixed_names}
use Rattle.labels.specs.Padded.{known_names}
use Rattle.labels.specs.Cells.{cell_of}
use Rattle.labels.proofs.Arms.{row_of, row-rest}
use Rattle.labels.specs.Roles.{role_number}
use Rattle.labels.specs.declared.roles.Role.TheVariants as v
use Rattle.labels.proofs.Numbers.{role_few, not_role}
use Rattle.labels.proofs.containment.row.Goals as goal

pub returns-in-Base : goal.returns-in-Base
unfolding every_from cell_of may_hold among row containment place_from fixed_name fixed_names known_names spells blank text
returns-in-Base c = row_of cell_of 16 2 _ refl (ap role_number c.in-Base.is)

pub returns-in-Zone : goal.returns-in-Zone
unfolding every_from cell_of may_hold among row containment place_from fixed_name fixed_names known_names spells blank text
returns-in-Zone c = row_of cell_of 16 3 _ refl (ap role_number c.in-Zone.is)

pub returns-in-GridCoordinates : goal.returns-in-GridCoordinates
unfolding every_from cell_of may_hold among row containment place_from fixed_name fixed_names known_names spells blank text
returns-in-GridCoordinates c = row_of cell_of 16 5 _ refl (ap role_number c.in-GridCoordinates.is)

pub returns-in-FlowSolution : goal.returns-in-FlowSolution
unfolding every_from cell_of may_hold among row containment place_from fixed_name fixed_names known_names spells blank text
returns-in-FlowSolution c = row_of cell_of 16 6 _ refl (ap role_number c.in-FlowSolution.is)

pub returns-in-Elements : goal.returns-in-Elements
unfolding every_from cell_of may_hold among row containment place_from fixed_name fixed_names known_names spells blank text
returns-in-Elements c = row_of cell_of 16 7 _ refl (ap role_number c.in-Elements.is)

pub returns-in-DataArray : goal.returns-in-DataArray
unfolding every_from cell_of may_hold among row containment place_from fixed_name fixed_names known_names spells blank text
returns-in-DataArray c = row_of cell_of 16 11 _ refl (ap role_number c.in-DataArray.is)

pub returns-in-Root : goal.returns-in-Root
unfolding every_from cell_of may_hold among row containment place_from fixed_name fixed_names known_names spells blank text
returns-in-Root c = row_of cell_of 16 15 _ refl (ap role_number c.in-Root.is)

pub returns-in_default : goal.returns-in_default
unfolding every_from cell_of may_hold among row containment place_from fixed_name fixed_names known_names spells blank text
returns-in_default c =
    let o = not_role c.args.above in
    let d = c.in_default in
    row-rest cell_of 16 _ (15 ∷ 11 ∷ 7 ∷ 6 ∷ 5 ∷ 3 ∷ 2 ∷ []) refl (role_few c.args.above).1 (
      (
        (
          ((((tt, o v.Base d.not-Base), o v.Zone d.not-Zone), o v.GridCoordinates d.not-GridCoordinates), o v.FlowSolution d.not-FlowSolution),
          o v.Elements d.not-Elements,
        ),
        o v.DataArray d.not-DataArray,
      ),
      o v.Root d.not-Root,
    )
