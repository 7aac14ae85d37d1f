-- Validation's rejection is the answer; else the zone decides.
use mathlib.Core.Path.{ap, sym, ◌∙◌}
use Rattle.model.specs.Rules.{rejected}
use Rattle.model.specs.Answers.{stage_tells}
use Rattle.model.proofs.Staging as stage
use Rattle.sections.proofs.Room.{image-off, image-on}
use Rattle.sections.proofs.answers.answer_after.Goals as goal

pub returns-in_err-stage : goal.returns-in_err-stage
returns-in_err-stage c =
    stage.handed _ _ c.from_residual.ensures.1 (sym (image-off _ _ _ (stage.refuses c.requires.0 c.in_err-stage.was)))

pub zone_answer-requires : goal.zone_answer-requires
zone_answer-requires c = c.requires.1 (ap stage_tells c.in_ok-stage.was)

pub returns : goal.returns
returns c =
    c.zone_answer.ensures ∙ image-on _ _ _ (stage.passes c.requires.0 c.in_ok-stage.was)
