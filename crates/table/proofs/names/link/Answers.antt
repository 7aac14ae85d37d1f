-- The last child of the parent becomes the sibling before, and node i the last child.
use native.Mathlib.Omega.{arith}
use Prim.Native.Nat.{◌≤◌, ◌<◌}
use Rattle.model.specs.Image.{parent}
use Rattle.model.proofs.Parents.{parent-lower, parent-none}
use Rattle.records.specs.Table.{all_records}
use Rattle.texts.proofs.Linking.{linked_apart, linked_on}
use Rattle.table.proofs.names.link.Goals as goal
use Rattle.table.proofs.names.link.Goals.{After-parent_of}

pub returns-then-i-eq0 : goal.returns-then-i-eq0
returns-then-i-eq0 c =
    let t = all_records c.args.table.now in
    let e = c.if-i-eq0.true in
    let n : 4096 ≤ parent t c.args.i = rw e (omega (arith, parent-none t (c.requires.has_record.0.1 0 (omega arith)))) in
    linked_apart c.requires.linked c.requires.has_record.1 e n

-- a parent has a lower number
lower : (p : After-parent_of) → p.parent_of.result < p.args.i
lower p =
    let u = parent-lower (all_records p.args.table.now) p.args.i (p.requires.has_record.0.1 p.args.i (omega arith)) p.if-i-eq0.false in
    omega (arith, u, p.parent_of.ensures.0)

pub add-requires : goal.add-requires
add-requires c = let l = lower (goal.at.add-requires c).After-parent_of in ((omega arith, omega arith), c.requires.has_record.1)

pub returns : goal.returns
returns c =
    let p = (goal.at.returns c).After-parent_of in
    let e = p.parent_of.ensures.0 in
    rw (c.add.ensures, e) (linked_on c.requires.linked c.requires.has_record.1 (omega arith) (rw (← e) (omega (arith, lower p))))

pub shape_of-siblings : goal.shape_of-siblings
shape_of-siblings c = c.add.auto.links
