-- A node with two columns has a word for each, and its first dimension is how long they are.
use native.Mathlib.Omega.{arith}
use Rattle.face_parents.proofs.Columns.{two-words, parent_row, no_row}
use Rattle.face_parents.proofs.rows_of.parents_row.Goals as goal

pub returns-in_default : goal.returns-in_default
returns-in_default c = rw c.in_default.is (no_row c.requires.sound)

pub data_start-at-requires : goal.data_start-at-requires
data_start-at-requires c = (c.requires.sound, (c.requires.columns _ c.in-Some.is).stores.inside)

pub width_at-width-requires : goal.width_at-width-requires
width_at-width-requires c = (c.requires.sound.laid, (c.requires.columns _ c.in-Some.is).stores.inside)

pub dimension-n-requires : goal.dimension-n-requires
dimension-n-requires c =
    let m = c.requires.columns _ c.in-Some.is in
    let w = two-words c.requires.sound m in
    record { laid = (c.requires.sound.laid, m.stores.inside); k_bound = (omega (arith, w.0), w.1) }

pub returns : goal.returns
returns c =
    rw c.in-Some.is
    (parent_row c.requires.sound (c.requires.columns _ c.in-Some.is) c.data_start-at.ensures.0 c.width_at-width.ensures.0 c.dimension-n.ensures)
