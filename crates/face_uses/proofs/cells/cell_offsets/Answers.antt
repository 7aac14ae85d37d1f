-- One start offset more than there are elements.
use mathlib.Core.Path.{refl, sym, ◌∙◌}
use borrow.Author.Tests.{lt-ltb}
use Rattle.types.proofs.Missing.{there, is_there}
use Rattle.face_places.proofs.Accepted.{section-kind}
use Rattle.face_uses.proofs.Arrays.{cells-offsets, row_read}
use Rattle.face_uses.proofs.cells.cell_offsets.Goals as goal

pub offsets_of-requires : goal.offsets_of-requires
offsets_of-requires c = let n = c.requires.0.section in record { index = (n.indexed, n.inside); s_value = section-kind n }

pub unwrap-offsets-requires : goal.unwrap-offsets-requires
unwrap-offsets-requires c =
    let p = c.requires in is_there _ _ c.offsets_of.ensures ∙ lt-ltb _ _ (cells-offsets p.0 p.1 refl).inside

pub data_start-requires : goal.data_start-requires
data_start-requires c =
    let p = c.requires in (p.0.section.accepted.sound, (there (sym c.unwrap-offsets.ensures ∙ c.offsets_of.ensures)).1)

pub width_at-requires : goal.width_at-requires
width_at-requires c =
    let p = c.requires in (p.0.section.accepted.sound.laid, (there (sym c.unwrap-offsets.ensures ∙ c.offsets_of.ensures)).1)

pub returns : goal.returns
returns c =
    let p = c.requires in
    let e = (there (sym c.unwrap-offsets.ensures ∙ c.offsets_of.ensures)).0 in
    rw (← e) (row_read p.0.section.accepted.sound (cells-offsets p.0 p.1 e) c.data_start.ensures.0 c.width_at.ensures.0)
