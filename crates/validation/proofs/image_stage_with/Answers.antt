-- Rules 1 to 18, then the others; where these hold the index is built, and is read only from there on.
use mathlib.Core.Path.{sym, ◌∙◌}
use borrow.Author.Rules.{rules}
use Rattle.model.specs.Validation.{image_check}
use Rattle.model.proofs.Passed.{refused, then-off}
use Rattle.model.proofs.Bounds.{sound}
use Rattle.model.proofs.Staging.{passes, refuses, stop, go}
use Rattle.validation.proofs.image_stage_with.Goals as goal

pub returns-in_err-table_stage_with : goal.returns-in_err-table_stage_with
unfolding image_check
returns-in_err-table_stage_with c =
    let s = stop c.table_stage_with.ensures _ _ _ c.in_err-table_stage_with.was c.from_residual.ensures.1 in
    (s, λ e. refused (sym (s ∙ then-off _ (refuses c.table_stage_with.ensures c.in_err-table_stage_with.was)) ∙ e))

pub build-requires : goal.build-requires
build-requires c =
    (sound _ (passes c.table_stage_with.ensures c.in_ok-table_stage_with.was), search rules)

pub nodes_stage-requires : goal.nodes_stage-requires
nodes_stage-requires c =
    record { index = (c.build.ensures, c.requires.in_bounds.1); in_bounds = c.requires.in_bounds_2 }

pub returns : goal.returns
unfolding image_check
returns c =
    (go c.table_stage_with.ensures c.in_ok-table_stage_with.was c.nodes_stage.ensures, λ e. c.build.ensures)
