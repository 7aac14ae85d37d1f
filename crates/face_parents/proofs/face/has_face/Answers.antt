-- A section of type 22 brings the faces of its range.
use mathlib.Core.Path.{sym, ◌∙◌}
use Rattle.model.proofs.Logic.{and_first}
use Rattle.model.proofs.Joins.{and_on, and_done}
use Rattle.face_places.proofs.Accepted.{section_by}
use Rattle.face_parents.proofs.OneFace.{has-face-is, before_span, from_first}
use Rattle.face_parents.proofs.face.has_face.Goals as goal

pub returns-then-not-has_type : goal.returns-then-not-has_type
returns-then-not-has_type c =
    and_done _ c.has_type.ensures (c.if-not-has_type.true) ∙ sym (has-face-is c.requires.0 _ _ _ c.requires.1.1)

pub span_of-span-requires : goal.span_of-span-requires
span_of-span-requires c =
    let p = c.requires in
    section_by p.0 p.1.0 _ _ p.1.1 (and_first _ _ (sym c.has_type.ensures ∙ c.if-not-has_type.false))

pub returns-then-f-span : goal.returns-then-f-span
returns-then-f-span c =
    let p = c.requires in
    and_on c.has_type.ensures (c.if-not-has_type.false) (before_span c.span_of-span.ensures _ c.if-f-span.true)
    ∙ sym (has-face-is p.0 _ _ _ p.1.1)

pub returns : goal.returns
returns c =
    let p = c.requires in
    and_on c.has_type.ensures (c.if-not-has_type.false) (from_first c.span_of-span.ensures _ c.if-f-span.false)
    ∙ sym (has-face-is p.0 _ _ _ p.1.1)
