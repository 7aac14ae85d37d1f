-- Each column is a row of the bytes.
use Prim.Native.Nat.{◌+◌, ◌*◌}
use mathlib.Core.Path.{sym, ◌∙◌}
use Rattle.model.proofs.Joins.{and_on, and_done}
use Rattle.rows.specs.Rows.{Numbers}
use native.Mathlib.Omega.{arith}
use Rattle.parents.proofs.ColumnLaws.{first_column, second_column, columns_are}
use Rattle.parents.proofs.rule.columns_lawful.Goals as goal
use Rattle.parents.proofs.rule.columns_lawful.Goals.{Else-not-are_cells}

pub are_cells-requires : goal.are_cells-requires
are_cells-requires c =
    record { numbers = (first_column c.requires.sound.0.0 _ c.requires.sound.0.1 c.data_start-at.ensures.0 c.width_at-width.ensures.0, c.requires.sound.1); cells = c.requires.cells }

pub returns-then-not-are_cells : goal.returns-then-not-are_cells
returns-then-not-are_cells c =
    and_done _ c.are_cells.ensures (c.if-not-are_cells.true)
    ∙ sym (columns_are c.requires.sound.0.0 _ c.requires.sound.0.1 c.data_start-at.ensures.0 c.width_at-width.ensures.0 _)

-- the second column lies in the image
second : (c : Else-not-are_cells) → let a = c.args in
    Numbers a.image.now (c.data_start-at.result + c.width_at-width.result * a.n) c.width_at-width.result a.n
second c = second_column c.requires.sound.0.0 _ c.requires.sound.0.1 c.data_start-at.ensures.0 c.width_at-width.ensures.0

pub are_cells-requires-2 : goal.are_cells-requires-2
are_cells-requires-2 c = record { numbers = (second c, c.requires.sound.1); cells = c.requires.cells }

pub returns : goal.returns
returns c =
    and_on c.are_cells.ensures (c.if-not-are_cells.false) c.are_cells-2.ensures
    ∙ sym (columns_are c.requires.sound.0.0 _ c.requires.sound.0.1 c.data_start-at.ensures.0 c.width_at-width.ensures.0 _)

pub data_start-at-requires : goal.data_start-at-requires
data_start-at-requires c = (c.requires.sound.0.0, c.requires.sound.0.1.inside)

pub width_at-width-requires : goal.width_at-width-requires
width_at-width-requires c = (c.requires.sound.0.0.laid, c.requires.sound.0.1.inside)

pub overflow_mul-second : goal.overflow_mul-second
overflow_mul-second c = omega (arith, (second c).inside, c.well_formed.0.0)

pub overflow_add-second : goal.overflow_add-second
overflow_add-second c = omega (arith, (second c).inside, c.well_formed.0.0)
