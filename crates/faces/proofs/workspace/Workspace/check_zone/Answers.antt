-- A check that refuses decides; where it passes, there is an index to ask for the zone.
use mathlib.Core.Path.{sym, ap, ◌∙◌}
use Rattle.model.specs.Rules.{rejected, ◌gives◌}
use Rattle.model.proofs.Passed.{then-on, then-off}
use Rattle.model.proofs.Staging.{broken, handed, kept, no_rule, passes, refuses}
use Rattle.faces.proofs.workspace.Workspace.check_zone.Goals as goal

pub returns-in_err-verdict-clause-answer : goal.returns-in_err-verdict-clause-answer
unfolding ◌gives◌
returns-in_err-verdict-clause-answer c =
    handed _ _ c.from_residual.ensures.1 (then-off _ (then-off _ (refuses c.image_stage_with-verdict.ensures.0 c.in_err-verdict.was)))

pub returns-then-not-is_zone-clause-answer : goal.returns-then-not-is_zone-clause-answer
unfolding ◌gives◌
returns-then-not-is_zone-clause-answer c =
    ap rejected c.at.ensures
    ∙ sym (then-off _ (then-on _ (passes c.image_stage_with-verdict.ensures.0 c.in_ok-verdict.was) ∙ broken 0 40 _ (sym c.is_zone.ensures ∙ c.if-not-is_zone.true)))

pub returns-clause-answer : goal.returns-clause-answer
unfolding ◌gives◌
returns-clause-answer c =
    sym (then-on _ (then-on _ (passes c.image_stage_with-verdict.ensures.0 c.in_ok-verdict.was) ∙ kept 0 40 _ (sym c.is_zone.ensures ∙ c.if-not-is_zone.false) ∙ no_rule 0))
