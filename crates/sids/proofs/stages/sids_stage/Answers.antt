-- Three groups of rules, one after the other.
use mathlib.Core.Path.{sym, ◌∙◌}
use Rattle.model.proofs.Passed.{check_pass}
use Rattle.model.proofs.Staging.{passes, stop, go, broken, kept, no_rule}
use Rattle.sids.proofs.Context.{ready, sized, sids_groups}
use Rattle.sids.proofs.stages.sids_stage.Goals as goal

pub place_stage-requires : goal.place_stage-requires
place_stage-requires c = record { index = (c.requires.index, c.requires.nodes_to.0.inside); i_value = c.requires.nodes_to.1 }

pub returns-in_err-place_stage : goal.returns-in_err-place_stage
returns-in_err-place_stage c = stop c.place_stage.ensures _ _ _ c.in_err-place_stage.was c.from_residual.ensures.1 ∙ sym (sids_groups _ _)

pub content_stage-requires : goal.content_stage-requires
content_stage-requires c =
    let q = (check_pass _ _ (passes c.place_stage.ensures c.in_ok-place_stage.was)).0 in
    record { index = (c.requires.index, ready c.args.image.now c.args.i c.requires.nodes_to.0 c.requires.nodes_to.1 q); nodes_to = c.requires.nodes_to.0 }

pub returns-in_err-content_stage : goal.returns-in_err-content_stage
returns-in_err-content_stage c =
    go c.place_stage.ensures c.in_ok-place_stage.was (stop c.content_stage.ensures _ _ _ c.in_err-content_stage.was c.from_residual-in_err-content_stage.ensures.1) ∙ sym
    (sids_groups _ _)

pub sizes_lawful-requires : goal.sizes_lawful-requires
sizes_lawful-requires c =
    let q = (check_pass _ _ (passes c.place_stage.ensures c.in_ok-place_stage.was)).0 in
    record { nodes_to = (c.requires.nodes_to.0, c.requires.index); i_value = c.requires.nodes_to.1; sized = sized c.args.image.now c.args.i c.requires.nodes_to.0 c.requires.nodes_to.1 q }

pub returns-then-not-sizes_lawful : goal.returns-then-not-sizes_lawful
returns-then-not-sizes_lawful c =
    go c.place_stage.ensures c.in_ok-place_stage.was (go c.content_stage.ensures c.in_ok-content_stage.was
    (c.reject.ensures ∙ sym (broken _ 26 _ (sym c.sizes_lawful.ensures ∙ c.if-not-sizes_lawful.true))))
    ∙ sym (sids_groups _ _)

pub returns : goal.returns
returns c =
    go c.place_stage.ensures c.in_ok-place_stage.was (go c.content_stage.ensures c.in_ok-content_stage.was
    (sym (kept _ 26 _ (sym c.sizes_lawful.ensures ∙ c.if-not-sizes_lawful.false) ∙ no_rule _)))
    ∙ sym (sids_groups _ _)
