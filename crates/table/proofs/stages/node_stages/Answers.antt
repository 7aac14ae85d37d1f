-- Rules 7 to 17 hold before node i, with the sums so far and what is known of names.
use native.Mathlib.Omega.{arith}
use Prim.Native.Nat.{◌+◌}
use mathlib.Core.Path.{◌≡◌, refl, sym, ◌∙◌}
use Rattle.model.specs.Records.{record_check_at, nothing_trails}
use Rattle.model.proofs.Passed.{check_from-off, then-off}
use Rattle.model.proofs.Staging.{handed, passes, refuses}
use Rattle.records.specs.Fields.{numbers_of}
use Rattle.records.specs.Table.{table_tree, TableTo}
use Rattle.texts.proofs.Marks.{seen_start}
use Rattle.table.proofs.Progress.{Progress, progress_start, progress_to, progress_on, numbers-here, trails_by, trails_on, trails_off}
use Rattle.table.proofs.stages.node_stages.Goals as goal
use Rattle.table.proofs.stages.node_stages.Goals.{After-numbers-r, After-sums_match, In_ok-record_stage}

pub loop-i-init : goal.loop-i-init
loop-i-init c = (progress_start _ _, seen_start _ _ c.requires.1.0 c.requires.1.1, refl)

-- what is known where node i was read
reached : (k : After-numbers-r) → TableTo k.args.table.now k.args.size k.loop-i.i
reached k = progress_to k.loop-i.invariant.0 k.requires.0 (omega arith)

numbered : (k : After-numbers-r) → let a = k.args in
    k.numbers-r.result ≡ numbers_of (table_tree a.table.now a.size) k.loop-i.i
numbered k = k.numbers-r.ensures ∙ numbers-here (reached k)

-- the stage passed at node i
further : (e : In_ok-record_stage)
    → Progress e.args.table.now e.args.size (e.loop-i.i + 1) (e.loop-i.words + e.numbers-r.result.rank) (e.loop-i.bytes + e.numbers-r.result.data_size)
further e =
    let r = progress_to e.loop-i.invariant.0 e.requires.0 (omega arith) in
    progress_on e.loop-i.invariant.0 r.inside (passes e.record_stage.ensures e.in_ok-record_stage.was)
    (e.numbers-r.ensures ∙ numbers-here r)

pub record_stage-requires : goal.record_stage-requires
record_stage-requires c =
    let k = (goal.at.record_stage-requires c).After-numbers-r in
    let v = k.loop-i.invariant in
    record { table_to = ((reached k, v.0.sums), numbered k); key_value = (k.name_key-key.ensures, v.1) }

pub returns-in_err-record_stage : goal.returns-in_err-record_stage
returns-in_err-record_stage c =
    let k = (goal.at.returns-in_err-record_stage c).After-numbers-r in
    let q = c.in_err-record_stage.was in
    let r = sym k.loop-i.invariant.0.rest ∙ check_from-off (record_check_at _) _ k.loop-i.i (reached k).inside
    (refuses c.record_stage.ensures q) in
    handed _ _ c.from_residual.ensures.1 (then-off _ r)

pub overflow_add-words : goal.overflow_add-words
overflow_add-words c = omega (arith, (further (goal.at.overflow_add-words c).In_ok-record_stage).sums.words_in)

pub overflow_add-bytes : goal.overflow_add-bytes
overflow_add-bytes c = omega (arith, (further (goal.at.overflow_add-bytes c).In_ok-record_stage).sums.bytes_in)

pub next-known-requires : goal.next-known-requires
next-known-requires c =
    let p = c.requires in
    record { count_bound = ((p.0.few, omega (arith, p.0.room)), omega (arith, p.1.0, c.loop-i.invariant.2)); i_lt_count = ((reached (goal.at.next-known-requires c).After-numbers-r).inside, (c.name_key-key.ensures, c.loop-i.invariant.1)) }

pub loop-i-preserved : goal.loop-i-preserved
loop-i-preserved c =
    (further (goal.at.loop-i-preserved c).In_ok-record_stage, c.next-known.ensures, c.next-known.auto.seen ∙ c.loop-i.invariant.2)

-- the sums are those of all nodes
trails : (o : After-sums_match)
    → let a = o.args in o.sums_match.result ≡ nothing_trails (table_tree a.table.now a.size)
trails o = o.sums_match.ensures ∙ trails_by o.loop-i.invariant.0 (omega arith)

pub returns-then-not-sums_match : goal.returns-then-not-sums_match
returns-then-not-sums_match c =
    let o = (goal.at.returns-then-not-sums_match c).After-sums_match in
    c.reject.ensures ∙ sym (trails_off o.loop-i.invariant.0 (omega arith) (sym (trails o) ∙ c.if-not-sums_match.true))

pub returns : goal.returns
returns c =
    let o = (goal.at.returns c).After-sums_match in
    sym (trails_on o.loop-i.invariant.0 (omega arith) (sym (trails o) ∙ c.if-not-sums_match.false))

pub shape_of-seen-in_err-record_stage : goal.shape_of-seen-in_err-record_stage
shape_of-seen-in_err-record_stage c = c.loop-i.invariant.2

pub shape_of-seen-then-not-sums_match : goal.shape_of-seen-then-not-sums_match
shape_of-seen-then-not-sums_match c = c.loop-i.invariant.2

pub shape_of-seen : goal.shape_of-seen
shape_of-seen c = c.loop-i.invariant.2
