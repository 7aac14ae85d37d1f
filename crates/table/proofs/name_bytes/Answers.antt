-- The stage's rejection, or the sum over the image's nodes.
use native.Mathlib.Omega.{arith}
use mathlib.Core.Path.{◌≡◌, refl, sym}
use lib.ListN.{length-drop}
use Rattle.model.specs.Rules.{passed, ◌gives◌}
use Rattle.model.specs.Records.{table_check}
use Rattle.model.specs.Bounds.{Laid}
use Rattle.model.specs.NameBytes.{name_bytes_answer}
use Rattle.model.proofs.Bounds.{table-laid}
use Rattle.model.proofs.Passed.{then-on}
use Rattle.model.proofs.Staging.{passes, stop}
use Rattle.table.proofs.Pairs.{image_lawful, image-bytes}
use Rattle.table.proofs.name_bytes.Goals as goal
use Rattle.table.proofs.name_bytes.Goals.{After-read-size, In_ok-table_stage_with}

pub returns-in_err-table_stage_with : goal.returns-in_err-table_stage_with
unfolding name_bytes_answer ◌gives◌
returns-in_err-table_stage_with c =
    stop c.table_stage_with.ensures _ _ _ c.in_err-table_stage_with.was c.from_residual.ensures.1

-- rules 1 to 18 hold
ok : (e : In_ok-table_stage_with) → table_check e.args.image.now ≡ passed
ok e = passes e.table_stage_with.ensures e.in_ok-table_stage_with.was

bounds : (e : In_ok-table_stage_with) → Laid e.args.image.now
bounds e = table-laid _ (ok e)

pub all_name_bytes-requires : goal.all_name_bytes-requires
all_name_bytes-requires c =
    let e = (goal.at.all_name_bytes-requires c).In_ok-table_stage_with in
    let l = bounds e in record {
      count_bound = rw (c.read-size.ensures, c.node_table.ensures.0)
          ((l.few, rw length-drop (omega (arith, l.data_at_lem, l.whole))), image_lawful _ (ok e) refl);
      in_bounds = omega (arith, e.table_stage_with.auto.seen);
    }

pub returns : goal.returns
unfolding name_bytes_answer ◌gives◌
returns c =
    let r = (goal.at.returns c).After-read-size in
    let e = (goal.at.returns c).In_ok-table_stage_with in
    let s = rw (r.read-size.ensures, c.node_table.ensures.0) at c.all_name_bytes.ensures in
    rw (s, image-bytes _ (ok e) refl) (sym (then-on _ (ok e)))

pub read-size-requires : goal.read-size-requires
read-size-requires c = let l = bounds c in omega (arith, l.data_at_lem, l.whole)

pub node_table-requires : goal.node_table-requires
node_table-requires c = let l = bounds (goal.at.node_table-requires c).In_ok-table_stage_with in omega (arith, l.data_at_lem, l.whole)
