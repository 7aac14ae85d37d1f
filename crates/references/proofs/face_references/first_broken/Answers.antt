-- The connectivity is a row of the bytes; with a tree or without one, its first number that refers to no face is found.
use native.Mathlib.Omega.{arith}
use borrow.Author.Rules.{rules}
use Rattle.section_data.proofs.ArrayLaws.{row-numbers}
use Rattle.references.proofs.RuleLaws.{first-face}
use Rattle.references.proofs.face_references.first_broken.Goals as goal

pub first_no_face-requires : goal.first_no_face-requires
first_no_face-requires c =
    record { sound = (c.requires.sound.0, rw c.parent_of-z.ensures.0 c.requires.sound.1.zone.inside); numbers = (row-numbers c.requires.sound.0 c.requires.row_of, c.requires.faces.0); built = (search rules, c.requires.faces.1) }

pub returns-then-row-faces : goal.returns-then-row-faces
returns-then-row-faces c =
    first-face c.requires.sound.0 _ c.requires.row_of _ c.parent_of-z.ensures.0 c.first_no_face.result c.first_no_face.ensures

pub build-tree-requires : goal.build-tree-requires
build-tree-requires c =
    let e = c.parent_of-z.ensures.0 in
    ((c.requires.faces.0.ordered.firsts_rise, c.requires.faces.0.few), (omega (arith, e, c.requires.sound.1.zone.inside, c.requires.sound.0.laid.few), c.requires.faces.1))

pub first_no_face-requires-2 : goal.first_no_face-requires-2
first_no_face-requires-2 c =
    record { sound = (c.requires.sound.0, rw c.parent_of-z.ensures.0 c.requires.sound.1.zone.inside); numbers = (row-numbers c.requires.sound.0 c.requires.row_of, c.requires.faces.0); built = (c.build-tree.ensures, omega (arith, c.build-tree.auto.levels, c.requires.faces.1)) }

pub returns : goal.returns
returns c =
    first-face c.requires.sound.0 _ c.requires.row_of _ c.parent_of-z.ensures.0 c.first_no_face-2.result c.first_no_face-2.ensures
