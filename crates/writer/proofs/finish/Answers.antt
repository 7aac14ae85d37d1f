-- The stage's rejection, or the needed room.
use mathlib.Core.Path.{sym}
use Rattle.model.specs.Rules.{◌gives◌}
use Rattle.model.proofs.Passed.{then-on}
use Rattle.model.proofs.Staging.{passes, stop}
use Rattle.writer_model.specs.Writer.{finish_answer}
use Rattle.writer.proofs.finish.Goals as goal

pub returns-in_err-finish_stage : goal.returns-in_err-finish_stage
unfolding finish_answer ◌gives◌
returns-in_err-finish_stage c = stop c.finish_stage.ensures _ _ _ c.in_err-finish_stage.was c.from_residual.ensures.1

pub returns : goal.returns
unfolding finish_answer ◌gives◌
returns c =
    rw c.needed_room.ensures (sym (then-on _ (passes c.finish_stage.ensures c.in_ok-finish_stage.was)))
