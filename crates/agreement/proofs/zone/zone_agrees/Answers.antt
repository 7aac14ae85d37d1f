-- The marks are taken away again.
use native.Mathlib.Omega.{arith}
use Rattle.face_places.proofs.Gathering.{few-ranges, all_faces}
use Rattle.agreement.proofs.ZoneLaws.{restored}
use Rattle.agreement.proofs.zone.zone_agrees.Goals as goal

pub gather_arrays-requires : goal.gather_arrays-requires
gather_arrays-requires c =
    record { accepted = ((c.requires.tables.accepted, c.requires.index.0), omega (arith, few-ranges c.requires.tables.accepted c.requires.tables.ranges)); in_tables = (c.args.places.now, c.requires.tables.ranges) }

pub all_agree-agrees-requires : goal.all_agree-agrees-requires
all_agree-agrees-requires c = record { index = c.requires.index; tables = c.requires.tables; arrays = c.gather_arrays.ensures; by_index = c.requires.by_index }

pub clear_marks-requires : goal.clear_marks-requires
clear_marks-requires c =
    omega (arith, all_faces c.requires.tables.accepted c.requires.tables.ranges, c.requires.tables.room, c.all_agree-agrees.ensures.1.long)

pub returns : goal.returns
returns c =
    let e = c.all_agree-agrees.ensures in (e.0, restored (all_faces c.requires.tables.accepted c.requires.tables.ranges) c.requires.by_index e.1 c.clear_marks.ensures)
