-- The stage's rejection, or the header's counts.
use native.Mathlib.Omega.{arith}
use mathlib.Core.Path.{sym}
use Rattle.model.specs.Rules.{◌gives◌}
use Rattle.model.specs.Image.{tree_of}
use Rattle.model.specs.Records.{table_counts, table_answer}
use Rattle.model.proofs.Bounds.{table-laid}
use Rattle.model.proofs.Passed.{then-on}
use Rattle.model.proofs.Staging.{passes, stop}
use Rattle.table.proofs.check_table.Goals as goal

pub returns-in_err-table_stage : goal.returns-in_err-table_stage
unfolding table_answer ◌gives◌
returns-in_err-table_stage c = stop c.table_stage.ensures _ _ _ c.in_err-table_stage.was c.from_residual.ensures.1

pub read-h-requires : goal.read-h-requires
read-h-requires c =
    let l = table-laid c.args.image.now (passes c.table_stage.ensures c.in_ok-table_stage.was) in
    omega (arith, l.words-at, l.data_at_lem, l.whole)

pub returns : goal.returns
unfolding table_answer ◌gives◌ table_counts tree_of
returns c =
    rw c.read-h.ensures (sym (then-on _ (passes c.table_stage.ensures c.in_ok-table_stage.was)))
