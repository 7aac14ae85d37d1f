-- The place behind the last entry is how many faces the zone has.
use mathlib.Core.Path.{ap, ◌∙◌}
use native.Mathlib.Omega.{arith}
use borrow.Author.Rules.{rules}
use Rattle.model.specs.Rules.{rejected}
use Rattle.face_places.proofs.Gathering.{all_faces}
use Rattle.faces.proofs.Checks.{of_ok, no_room, with_room}
use Rattle.faces.proofs.workspace.Workspace.gather_faces.Goals as goal

pub returns-then-room-places-clause-answer : goal.returns-then-room-places-clause-answer
returns-then-room-places-clause-answer c =
    ap rejected c.at.ensures ∙ no_room _ (omega (arith, all_faces c.requires.accepted.0.0 c.gather-count.ensures, c.if-room-places.true))

pub returns-then-count-lt2-clause-answer : goal.returns-then-count-lt2-clause-answer
returns-then-count-lt2-clause-answer c =
    with_room _ (omega (arith, all_faces c.requires.accepted.0.0 c.gather-count.ensures, c.if-room-places.false))

pub returns-then-count-lt2-clause-tables : goal.returns-then-count-lt2-clause-tables
returns-then-count-lt2-clause-tables c =
    let g = c.gather-count.ensures in
    of_ok _ (record { accepted = c.requires.accepted.0.0; ranges = g; tree = search rules; room = omega (arith, all_faces c.requires.accepted.0.0 g, c.if-room-places.false) })

pub returns-clause-answer : goal.returns-clause-answer
returns-clause-answer c =
    with_room _ (omega (arith, all_faces c.requires.accepted.0.0 c.gather-count.ensures, c.if-room-places.false))

pub returns-clause-tables : goal.returns-clause-tables
returns-clause-tables c =
    let g = c.gather-count.ensures in
    of_ok _ (record { accepted = c.requires.accepted.0.0; ranges = g; tree = c.build-tree.ensures; room = omega (arith, all_faces c.requires.accepted.0.0 g, c.if-room-places.false) })
