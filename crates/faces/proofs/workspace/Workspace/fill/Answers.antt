-- A run over cleared bytes is the usage; where it is refused, the bytes are cleared again.
use native.Mathlib.Omega.{arith}
use Rattle.face_places.proofs.Gathering.{all_faces}
use Rattle.faces.proofs.Whole.{run_passed, run_refused}
use Rattle.faces.proofs.workspace.Workspace.fill.Goals as goal

pub clear-requires : goal.clear-requires
clear-requires c =
    omega (arith, all_faces c.requires.tables.accepted c.requires.tables.ranges, c.requires.tables.room)

pub returns-in-Err : goal.returns-in-Err
returns-in-Err c =
    let f = all_faces c.requires.tables.accepted c.requires.tables.ranges in
    let w = run_refused c.requires.tables.accepted _ _ f c.clear.ensures c.use_nodes.ensures c.clear-in-Err.ensures c.in-Err.is in
    record { result_value = w.0; out_after = w.1 }

pub returns : goal.returns
returns c =
    let f = all_faces c.requires.tables.accepted c.requires.tables.ranges in
    let w = run_passed c.requires.tables.accepted _ _ f c.clear.ensures c.use_nodes.ensures c.in_default.is in
    record { result_value = w.0; out_after = w.1 }
