-- The stage's rejection, or the header and zeros.
use native.Mathlib.Omega.{arith}
use Prim.Native.Nat.{◌+◌, ◌*◌, ◌≤◌}
use mathlib.Core.Path.{◌≡◌, sym, ◌∙◌}
use lib.ListN.{length}
use Rattle.model.specs.Rules.{passed}
use mathlib.Core.List.{[]}
use Rattle.std.proofs.Common.{ℕ}
use Rattle.model.proofs.Staging.{handed, passes, refuses}
use Rattle.writer_model.specs.Writer.{start_check, started, start_answer, start_memory}
use Rattle.writer_parts.proofs.PartLaws.{room_sum, start_limits}
use Rattle.writer.proofs.Calls.{refused, done}
use Rattle.writer.proofs.start.Goals as goal
use Rattle.writer.proofs.start.Goals.{In_ok-start_stage}

pub returns-in_err-start_stage : goal.returns-in_err-start_stage
unfolding start_answer start_memory
returns-in_err-start_stage c =
    let r = refuses c.start_stage.ensures c.in_err-start_stage.was in
    record { result_value = handed _ _ c.from_residual.ensures.1 (sym (refused _ [] [] r).0); room_after = (refused {A = ℕ} 0 _ _ r).1 }

-- the stage passed
sound : (d : In_ok-start_stage) → let a = d.args in start_check a.nodes a.words a.bytes (length a.room.now) ≡ passed
sound d = passes d.start_stage.ensures d.in_ok-start_stage.was

small : (d : In_ok-start_stage) → let a = d.args in 32 + 84 * a.nodes + 8 * a.words + a.bytes ≤ 16777216
small d = room_sum _ _ _ _ (start_limits _ _ _ _ (sound d)).0

pub put_blank-requires : goal.put_blank-requires
put_blank-requires c = sound (goal.at.put_blank-requires c).In_ok-start_stage

pub overflow_cast-result : goal.overflow_cast-result
overflow_cast-result c = omega (arith, small (goal.at.overflow_cast-result c).In_ok-start_stage)

pub overflow_cast-result-2 : goal.overflow_cast-result-2
overflow_cast-result-2 c = omega (arith, small (goal.at.overflow_cast-result-2 c).In_ok-start_stage)

pub overflow_cast-result-3 : goal.overflow_cast-result-3
overflow_cast-result-3 c = omega (arith, small (goal.at.overflow_cast-result-3 c).In_ok-start_stage)

pub returns : goal.returns
unfolding start_answer start_memory started
returns c =
    let e = done _ _ _ (sound (goal.at.returns c).In_ok-start_stage) in
    record { result_value = e.0; room_after = c.put_blank.ensures ∙ e.1 }
