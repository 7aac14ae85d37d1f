-- As many as its range has, where it is a face section.
use mathlib.Core.Path.{sym, ◌∙◌}
use Rattle.model.specs.FaceUsage.{faces_in}
use Rattle.model.proofs.Logic.{and_first}
use Rattle.face_places.proofs.Accepted.{section_by, face-section-is, faces_are, count_read}
use Rattle.agreement.proofs.complete.faces_of.Goals as goal

pub returns-then-not-has_type : goal.returns-then-not-has_type
unfolding faces_in
returns-then-not-has_type c =
    let e = face-section-is c.requires.0 c.args.z c.args.s c.requires.1.1 ∙ sym c.has_type.ensures ∙ c.if-not-has_type.true in rw e

pub span_of-span-requires : goal.span_of-span-requires
span_of-span-requires c =
    let p = c.requires in
    section_by p.0 p.1.0 _ _ p.1.1 (and_first _ _ (sym c.has_type.ensures ∙ c.if-not-has_type.false))

pub returns : goal.returns
returns c =
    let e = face-section-is c.requires.0 c.args.z c.args.s c.requires.1.1 ∙ sym c.has_type.ensures ∙ c.if-not-has_type.false in
    sym (faces_are c.requires.0 c.args.z c.args.s c.requires.1.1 e ∙ count_read c.span_of-span.ensures)
