-- The cell tells the fixed name.
use Prim.Native.Nat.{◌+◌, ◌-◌}
use mathlib.Core.Path.{◌≡◌, refl, sym, ◌∙◌}
use Rattle.model.specs.Image.{tree_of, name}
use Rattle.labels.specs.Names.{name_number}
use Rattle.labels.specs.Cells.{cell_of}
use Rattle.labels.specs.Roles.{kind_number}
use Rattle.labels.proofs.Numbers.{kind_few}
use Rattle.labels.proofs.Grid.{named-is, name_free, name_fixed}
use native.Mathlib.Omega.{arith}
use Rattle.labels.proofs.containment.named.Goals as goal

pub returns-in-Some : goal.returns-in-Some
returns-in-Some c =
    let a = c.args in
    let e = c.requires.above_value in
    let q : name_number c.in-Some.known + 2 - 1 - 1 ≡ name_number c.in-Some.known = omega arith in
    c.name_is.ensures
    ∙ rw q at (name_fixed _ _ (sym c.in-Some.ensures) (kind_few a.above) (kind_few a.below) (name (tree_of a.image.now) a.i) (omega arith)) ∙ named-is _ _ e.0 e.1

pub returns-in-None : goal.returns-in-None
returns-in-None c =
    let a = c.args in
    let e = c.requires.above_value in
    name_free _ _ {k = cell_of (kind_number a.above) (kind_number a.below)} refl (kind_few a.above) (kind_few a.below) (name (tree_of a.image.now) a.i) c.in-None.ensures ∙ named-is _ _ e.0 e.1
