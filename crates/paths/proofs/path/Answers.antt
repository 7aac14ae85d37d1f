-- What rules 1 to 18 refuse is the answer; where they pass the rest decides.
use mathlib.Core.Path.{sym}
use Rattle.model.proofs.Bounds.{sound}
use Rattle.model.proofs.Staging.{handed, passes, refuses}
use Rattle.paths.proofs.Answer.{no_table}
use Rattle.paths.proofs.path.Goals as goal

pub returns-in_err-table_stage : goal.returns-in_err-table_stage
returns-in_err-table_stage c =
    let a = c.args in
    let q = no_table a.image.now a.node a.out.now (refuses c.table_stage.ensures c.in_err-table_stage.was) in
    (handed _ _ c.from_residual.ensures.1 (sym q.0), q.1)

pub sound_path-requires : goal.sound_path-requires
sound_path-requires c = sound _ (passes c.table_stage.ensures c.in_ok-table_stage.was)

pub returns : goal.returns
returns c = c.sound_path.ensures
