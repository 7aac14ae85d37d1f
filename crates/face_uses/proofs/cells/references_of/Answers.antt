-- A cell section's references are its connectivity, all of it; any other node brings none.
use mathlib.Core.Path.{refl, sym, ◌∙◌}
use borrow.Author.Tests.{lt-ltb}
use Rattle.types.proofs.Missing.{there, is_there}
use Rattle.face_places.proofs.Accepted.{section-kind}
use Rattle.face_uses.proofs.Arrays.{cells_by, cells-connectivity, references, no_references}
use Rattle.face_uses.proofs.cells.references_of.Goals as goal

pub returns-then-not-has_type : goal.returns-then-not-has_type
returns-then-not-has_type c = no_references _ _ _ _ (sym c.has_type.ensures ∙ c.if-not-has_type.true)

pub connectivity_of-requires : goal.connectivity_of-requires
connectivity_of-requires c =
    let p = c.requires in
    let n = cells_by p.0 p.1.0 _ _ p.1.1 (sym c.has_type.ensures ∙ c.if-not-has_type.false) in record { index = p.1; s_value = section-kind n.section }

pub unwrap-requires : goal.unwrap-requires
unwrap-requires c =
    let p = c.requires in
    let n = cells_by p.0 p.1.0 _ _ p.1.1 (sym c.has_type.ensures ∙ c.if-not-has_type.false) in
    is_there _ _ c.connectivity_of.ensures ∙ lt-ltb _ _ (cells-connectivity n refl).numbers.inside

pub row_of-requires : goal.row_of-requires
row_of-requires c =
    let p = c.requires in
    let n = cells_by p.0 p.1.0 _ _ p.1.1 (sym c.has_type.ensures ∙ c.if-not-has_type.false) in (p.0.sound, cells-connectivity n (there (sym c.unwrap.ensures ∙ c.connectivity_of.ensures)).0)

pub returns : goal.returns
returns c =
    let p = c.requires in
    let on = sym c.has_type.ensures ∙ c.if-not-has_type.false in
    references (cells_by p.0 p.1.0 _ _ p.1.1 on) (there (sym c.unwrap.ensures ∙ c.connectivity_of.ensures)).0 on c.row_of.ensures
