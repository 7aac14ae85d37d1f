-- The first refusal, or the counts.
use mathlib.Core.Path.{refl, ap, sym, ◌∙◌}
use Rattle.model.specs.Rules.{◌gives◌}
use Rattle.model.specs.Answers.{stage_tells}
use Rattle.model.specs.Validation.{validation}
use Rattle.model.proofs.Passed.{then-on}
use Rattle.model.proofs.Staging.{passes, stop}
use Rattle.validation.proofs.validate.Goals as goal

pub returns-in_err-image_stage : goal.returns-in_err-image_stage
unfolding validation ◌gives◌
returns-in_err-image_stage c =
    stop c.image_stage.ensures.0 _ _ _ c.in_err-image_stage.was c.from_residual.ensures.1

pub counted-requires : goal.counted-requires
counted-requires c = c.image_stage.ensures.1 (ap stage_tells c.in_ok-image_stage.was)

pub returns : goal.returns
unfolding validation ◌gives◌
returns c =
    c.counted.ensures ∙ sym (then-on _ (passes c.image_stage.ensures.0 c.in_ok-image_stage.was))

pub slice_bounds-image_stage-end : goal.slice_bounds-image_stage-end
slice_bounds-image_stage-end c = refl
