-- The first reference that is no face is the first that breaks a rule, and its number tells which.
use mathlib.Core.Path.{ap, ◌∙◌}
use Rattle.model.specs.Rules.{rejected}
use Rattle.section_data.proofs.ArrayLaws.{row-numbers}
use Rattle.references.proofs.RuleLaws.{long-is, number_is, faces_kept, faces_broken}
use Rattle.references.proofs.face_references.face_stage.Goals as goal

pub returns-in_default : goal.returns-in_default
returns-in_default c =
    faces_kept _ _ c.requires.row_of.1 (long-is c.requires.index.0.sound _ c.requires.row_of.0) (rw c.in_default.is at c.first_broken.ensures)

pub magnitude_at-f-requires : goal.magnitude_at-f-requires
magnitude_at-f-requires c = (row-numbers c.requires.index.0.sound c.requires.row_of.0, c.in-Some.ensures.1)

pub returns : goal.returns
returns c =
    ap rejected c.at_entry.ensures
    ∙ rw (
      c.face_rule-rule.ensures,
      c.parent_of.ensures.0,
      c.magnitude_at-f.ensures,
      ← number_is c.requires.index.0.sound _ c.requires.row_of.0 _ c.in-Some.ensures.1,
    )
    (faces_broken _ _ c.requires.row_of.1 (long-is c.requires.index.0.sound _ c.requires.row_of.0) c.in-Some.ensures)
