-- Two tests, then the table's check of the needed room.
use Prim.Native.Nat.{ℕ}
use mathlib.Core.Path.{sym, ap, ◌∙◌}
use lib.ListN.{take}
use lib.Seq.{length-take-le}
use borrow.Author.Tests.{leb-true}
use Rattle.model.specs.Records.{table_check}
use Rattle.model.proofs.Passed.{check_pass}
use Rattle.model.proofs.Staging.{stop, go, passes}
use Rattle.writer_model.specs.Writer.{finish_check}
use Rattle.writer.proofs.finish_stage.Goals as goal

pub returns-in_err-end_stage : goal.returns-in_err-end_stage
unfolding finish_check
returns-in_err-end_stage c = stop c.end_stage.ensures _ _ _ c.in_err-end_stage.was c.from_residual.ensures.1

pub slice_bounds-table_stage-end : goal.slice_bounds-table_stage-end
slice_bounds-table_stage-end c =
    let e = c.end_stage.ensures in
    sym (length-take-le _ _ (rw c.needed_room-end.ensures (leb-true _ _ (check_pass 0 _ (passes e c.in_ok-end_stage.was)).0)))

pub returns : goal.returns
unfolding finish_check
returns c =
    let n = c.needed_room-end.ensures in
    go c.end_stage.ensures c.in_ok-end_stage.was (c.table_stage.ensures ∙ ap (λ (k : ℕ). table_check (take k c.args.room.now)) n)
