-- The face's section, its array, and the numbers there, each asked for after the one before it was found.
use mathlib.Core.Path.{refl, sym, ap, ◌∙◌}
use Rattle.model.specs.Rules.{rejected}
use Rattle.model.proofs.Found.{the_none}
use Rattle.types.proofs.Missing.{there}
use Rattle.face_places.proofs.Accepted.{section-kind}
use Rattle.face_parents.proofs.OneFace.{face_inside, its_face, its_columns, no_face, no_array, both_told}
use Rattle.face_parents.proofs.face.parents_of_face.Goals as goal

pub returns-in_default : goal.returns-in_default
returns-in_default c = ap rejected c.at.ensures ∙ no_face _ _ _ (sym c.in_default.is ∙ c.section_with_face.ensures)

pub parents_of-requires : goal.parents_of-requires
parents_of-requires c =
    let o = c.in-Some.ensures in
    let g = its_face c.requires.0 c.requires.1 _ _ o in
    record { index = (c.requires.1, face_inside c.requires.0 c.requires.1 _ _ o); s_value = section-kind g.0.0; element_type_value = g.0.1 }

pub returns-in_default-parents_of : goal.returns-in_default-parents_of
returns-in_default-parents_of c =
    ap rejected c.at-in_default-parents_of.ensures
    ∙ no_array _ _ _ c.in-Some.ensures refl refl (the_none (sym c.in_default-parents_of.ensures))

pub stored_parents-requires : goal.stored_parents-requires
stored_parents-requires c =
    let o = c.in-Some.ensures in
    let l = there c.in-Some-parents_of.ensures in
    let g = its_face c.requires.0 c.requires.1 _ _ o in
    record { section = (g.0.0, g.1); a_value = (l.0, its_columns c.requires.0 c.requires.1 _ _ o l.0 l.1) }

pub returns : goal.returns
returns c =
    let l = there c.in-Some-parents_of.ensures in
    c.stored_parents.ensures ∙ both_told _ _ _ c.in-Some.ensures l.0 refl l.1
