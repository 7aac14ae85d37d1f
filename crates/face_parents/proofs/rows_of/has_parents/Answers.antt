-- A face section of an accepted image is a section of type 22.
use mathlib.Core.Path.{refl, sym, ◌∙◌}
use borrow.Author.Tests.{eqb-true}
use Rattle.model.specs.Image.{tree_of}
use Rattle.model.specs.Containment.{section_of}
use Rattle.model.proofs.Logic.{and_first, and_second}
use Rattle.model.proofs.Joins.{and_on, and_done}
use Rattle.types.proofs.Missing.{is_there}
use Rattle.face_places.proofs.Accepted.{section_by, section-kind}
use Rattle.face_parents.proofs.Columns.{found_by, has_parents_is}
use Rattle.face_parents.proofs.rows_of.has_parents.Goals as goal

pub returns-then-not-has_type : goal.returns-then-not-has_type
returns-then-not-has_type c =
    and_done _ c.has_type.ensures (c.if-not-has_type.true) ∙ sym (has_parents_is c.requires.0 c.args.z c.args.s c.requires.1.1)

pub parents_of-requires : goal.parents_of-requires
parents_of-requires c =
    let p = c.requires in
    let t = sym c.has_type.ensures ∙ c.if-not-has_type.false in
    let s = section_of (tree_of c.args.image.now) c.args.z c.args.s in
    record { index = (p.1.0, p.1.1); s_value = section-kind (section_by p.0 p.1.0 _ _ p.1.1 (and_first s _ t)); element_type_value = sym (eqb-true _ _ (and_second s _ t)) }

pub returns : goal.returns
returns c =
    and_on c.has_type.ensures (c.if-not-has_type.false)
    (c.is_some.ensures ∙ is_there _ _ c.parents_of.ensures ∙ found_by c.args.image.now refl refl)
    ∙ sym (has_parents_is c.requires.0 c.args.z c.args.s c.requires.1.1)
