-- A node that is not validated is skipped; another meets rules 20 to 26, then a section's own.
use mathlib.Core.Path.{sym, ◌∙◌}
use Rattle.model.proofs.Staging.{passes, stop, go}
use Rattle.validation.proofs.Laws.{node-skipped, node_checked}
use Rattle.validation.proofs.node_stage.Goals as goal

pub is_validated-requires : goal.is_validated-requires
is_validated-requires c = (c.requires.nodes_to.1, c.requires.nodes_to.0.inside)

pub returns-then-not-is_validated : goal.returns-then-not-is_validated
returns-then-not-is_validated c = node-skipped _ _ (sym c.is_validated.ensures ∙ c.if-not-is_validated.true)

pub sids_stage-requires : goal.sids_stage-requires
sids_stage-requires c =
    record { nodes_to = (c.requires.nodes_to.0, sym c.is_validated.ensures ∙ c.if-not-is_validated.false); index = c.requires.nodes_to.1 }

pub returns-in_err-sids_stage : goal.returns-in_err-sids_stage
returns-in_err-sids_stage c =
    stop c.sids_stage.ensures _ _ _ c.in_err-sids_stage.was c.from_residual.ensures.1
    ∙ node_checked _ _ (sym c.is_validated.ensures ∙ c.if-not-is_validated.false)

pub section_stage-requires : goal.section_stage-requires
section_stage-requires c = record {
  nodes_to = c.requires.nodes_to;
  i_value = sym c.is_validated.ensures ∙ c.if-not-is_validated.false;
  i_value_2 = passes c.sids_stage.ensures c.in_ok-sids_stage.was;
  overlap_value = c.requires.overlap_value;
  faces = c.requires.faces;
}

pub returns : goal.returns
returns c =
    go c.sids_stage.ensures c.in_ok-sids_stage.was c.section_stage.ensures
    ∙ node_checked _ _ (sym c.is_validated.ensures ∙ c.if-not-is_validated.false)
