-- The parent is a lower node, so that its row is there; the first node for a slot stays in it.
use Prim.Native.Nat.{ℕ, ◌+◌, ◌<◌}
use mathlib.Core.Path.{◌≡◌, ◌∙◌}
use mathlib.Core.List.{List}
use Rattle.model.specs.Image.{tree_of}
use Rattle.index.specs.Index.{kind, Rows}
use Rattle.index.proofs.Marking.{kind_by, lower, begin_row, no_mark, mark_room, mark}
use Rattle.labels.specs.Roles.{kind_number}
use Rattle.labels.proofs.Numbers.{kind_few}
use native.Mathlib.Omega.{arith}
use Rattle.index.proofs.tables.mark_node.Goals as goal
use Rattle.index.proofs.tables.mark_node.Goals.{After-slot_of}

-- the slot is known
module _ (c : After-slot_of) where
  abbrev b : List ℕ
  b = c.args.image.now

  up-lower : c.parent_of-up.result < c.args.j
  up-lower =
      let p = c.requires.sound in
      let l = lower b p.0 c.args.j p.1.1 p.1.0 in
      omega (arith, c.parent_of-up.ensures.0)

  above-is : kind_number c.row_kind-above.result ≡ kind (tree_of b) c.parent_of-up.result
  above-is = c.row_kind-above.ensures ∙ c.requires.rows.kinds _ up-lower

  begun : Rows b c.begin_row.new.index (c.args.j + 1) c.args.j
  begun =
      let p = c.requires.sound in
      begin_row p.0 c.requires.rows c.begin_row.ensures p.1.1
      (kind_by b p.0 _ p.1.1 p.1.0 c.parent_of-up.ensures.0 above-is c.role_of-role.ensures c.kind_below.ensures) (kind_few c.kind_below.result)

pub row_kind-above-requires : goal.row_kind-above-requires
row_kind-above-requires c =
    let u = lower _ c.requires.sound.0 _ c.requires.sound.1.1 c.requires.sound.1.0 in
    let e = c.parent_of-up.ensures.0 in
    ((omega (arith, c.requires.sound.1), omega (arith, c.requires.sound.1)), c.requires.rows.few _ (omega (arith, e)))

pub slot_of-requires : goal.slot_of-requires
slot_of-requires c = record { laid = (c.requires.sound.0.laid, c.requires.sound.1.1); below_value = c.role_of-role.ensures }

pub put-requires : goal.put-requires
put-requires c =
    let d = (goal.at.put-requires c).After-slot_of in
    let m = mark_room d.requires.sound.0 (begun d) d.requires.sound.1.0 d.requires.sound.1.1 d.parent_of-up.ensures.0 (above-is d) c.in-Some.ensures.0 c.in-Some.ensures.1 in
    (m, omega (arith, d.requires.sound.1))

pub returns-in-Some : goal.returns-in-Some
returns-in-Some c =
    let d = (goal.at.returns-in-Some c).After-slot_of in
    rw c.put.ensures
    (mark d.requires.sound.0 (begun d) d.requires.sound.1.0 d.requires.sound.1.1 d.parent_of-up.ensures.0 (above-is d) c.in-Some.ensures.0 c.in-Some.ensures.1)

pub returns-in_default : goal.returns-in_default
returns-in_default c =
    let d = (goal.at.returns-in_default c).After-slot_of in
    no_mark d.requires.sound.0 (begun d) d.requires.sound.1.0 d.requires.sound.1.1 d.parent_of-up.ensures.0 (above-is d) c.in_default.ensures.0 (omega arith)
