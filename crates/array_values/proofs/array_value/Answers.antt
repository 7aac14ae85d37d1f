-- What rules 1 to 18 refuse is the answer; where they pass the rest decides.
use Rattle.std.proofs.lemmas.Result.{err_from_is_err_and}
use Rattle.model.proofs.Bounds.{sound}
use Rattle.model.proofs.Staging.{passes, refuses}
use Rattle.array_values.proofs.Answer.{no_table}
use Rattle.array_values.proofs.array_value.Goals as goal

pub returns-in_err-table_stage : goal.returns-in_err-table_stage
returns-in_err-table_stage c =
    let a = c.args in
    let p = err_from_is_err_and c.from_residual.result c.from_residual.ensures.1 in
    rw (p.1, p.2) (no_table a.image.now a.node a.k (refuses c.table_stage.ensures c.in_err-table_stage.was), tt)

pub sound_value-requires : goal.sound_value-requires
sound_value-requires c = sound _ (passes c.table_stage.ensures c.in_ok-table_stage.was)

pub returns : goal.returns
returns c = c.sound_value.ensures
