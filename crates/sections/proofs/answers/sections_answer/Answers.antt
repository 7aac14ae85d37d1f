-- Validation fills the index where it accepts, and from there on it is only read.
use mathlib.Core.Path.{◌∙◌}
use Rattle.sections.proofs.answers.sections_answer.Goals as goal

pub answer_after-requires : goal.answer_after-requires
answer_after-requires c = c.image_stage-stage.ensures

pub returns : goal.returns
returns c =
    let s = c.image_stage-stage.ensures in
    record { result_value = c.answer_after.ensures; index = λ e. s.1 (s.0 ∙ e) }
