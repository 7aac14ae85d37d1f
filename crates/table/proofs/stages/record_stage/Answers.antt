-- Four groups of rules, one after the other.
use native.Mathlib.Omega.{arith}
use mathlib.Core.Path.{sym, ap, ◌∙◌}
use Rattle.records.specs.declared.RecordNumbers.{RecordNumbers}
use Rattle.model.proofs.Staging.{stop, go}
use Rattle.table.proofs.Progress.{record_groups, lawful_before, free_before, numbers-here}
use Rattle.table.proofs.Taken.{names_at}
use Rattle.table.proofs.stages.record_stage.Goals as goal

pub returns-in_err-place_stage : goal.returns-in_err-place_stage
returns-in_err-place_stage c =
    stop c.place_stage.ensures _ _ _ c.in_err-place_stage.was c.from_residual.ensures.1 ∙ sym (record_groups c.requires.table_to.0.0)

pub text_stage-requires : goal.text_stage-requires
text_stage-requires c =
    let t = c.requires.table_to.0.0 in
    record { has_record = (omega arith, omega arith); key_value = (c.requires.key_value.0, names_at _ t.inside (free_before t) _ _ c.requires.key_value.1) }

pub returns-in_err-text_stage : goal.returns-in_err-text_stage
returns-in_err-text_stage c =
    go c.place_stage.ensures c.in_ok-place_stage.was (stop c.text_stage.ensures _ _ _ c.in_err-text_stage.was c.from_residual-in_err-text_stage.ensures.1)
    ∙ sym (record_groups c.requires.table_to.0.0)

pub type_stage-requires : goal.type_stage-requires
type_stage-requires c =
    ((omega arith, omega arith), ap (λ (x : RecordNumbers). x.rank) (c.requires.table_to.1 ∙ sym (numbers-here c.requires.table_to.0.0)))

pub returns-in_err-type_stage : goal.returns-in_err-type_stage
returns-in_err-type_stage c =
    go c.place_stage.ensures c.in_ok-place_stage.was
    (go c.text_stage.ensures c.in_ok-text_stage.was (stop c.type_stage.ensures _ _ _ c.in_err-type_stage.was c.from_residual-in_err-type_stage.ensures.1))
    ∙ sym (record_groups c.requires.table_to.0.0)

pub size_stage-requires : goal.size_stage-requires
size_stage-requires c =
    record { table_laid = ((c.requires.table_to.0.0.laid, c.requires.table_to.0.0.inside), c.requires.table_to.1); sums = c.requires.table_to.0.1 }

pub returns : goal.returns
returns c =
    go c.place_stage.ensures c.in_ok-place_stage.was
    (go c.text_stage.ensures c.in_ok-text_stage.was
    (go c.type_stage.ensures c.in_ok-type_stage.was c.size_stage.ensures))
    ∙ sym (record_groups c.requires.table_to.0.0)

pub place_stage-requires : goal.place_stage-requires
place_stage-requires c = ((omega arith, omega arith), lawful_before c.requires.table_to.0.0)
