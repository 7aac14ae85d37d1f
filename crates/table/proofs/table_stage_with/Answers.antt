-- The header's bounds, then the records of the image's table.
use native.Mathlib.Omega.{arith}
use Rattle.model.specs.Records.{table_check}
use Rattle.model.specs.Bounds.{Laid}
use Rattle.model.proofs.Bounds.{laid}
use Rattle.model.proofs.Staging.{passes, stop, go}
use Rattle.records.proofs.Tables.{table-tree, table-laid}
use Rattle.table.proofs.table_stage_with.Goals as goal
use Rattle.table.proofs.table_stage_with.Goals.{After-node_table, After-records_stage, In_ok-header_stage}

pub returns-in_err-header_stage : goal.returns-in_err-header_stage
unfolding table_check
returns-in_err-header_stage c = stop c.header_stage.ensures _ _ _ c.in_err-header_stage.was c.from_residual.ensures.1

-- the header holds
bounds : (e : In_ok-header_stage) → Laid e.args.image.now
bounds e = laid _ (passes e.header_stage.ensures e.in_ok-header_stage.was)

pub node_table-requires : goal.node_table-requires
node_table-requires c = let l = bounds c in omega (arith, l.data_at_lem, l.whole)

pub read-requires : goal.read-requires
read-requires c = let l = bounds (goal.at.read-requires c).In_ok-header_stage in omega (arith, l.data_at_lem, l.whole)

pub records_stage-requires : goal.records_stage-requires
records_stage-requires c =
    let n = (goal.at.records_stage-requires c).After-node_table in
    (rw (n.node_table.ensures.0, c.read.ensures) (table-laid _ (bounds (goal.at.records_stage-requires c).In_ok-header_stage)), n.requires)

pub returns : goal.returns
unfolding table_check
returns c =
    let r = (goal.at.returns c).After-records_stage in
    let n = (goal.at.returns c).After-node_table in
    let e = (goal.at.returns c).In_ok-header_stage in
    go e.header_stage.ensures e.in_ok-header_stage.was
    (rw (n.node_table.ensures.0, r.read.ensures, ← table-tree _ (bounds e)) at r.records_stage.ensures)
