-- What is told of the span, and what `corners_in` writes of it.
use mathlib.Core.Path.{◌∙◌}
use Rattle.model.proofs.Staging.{handed}
use Rattle.corners.proofs.Outcomes.{element_refused, corners_are}
use Rattle.corners.proofs.element.element_corners.Goals as goal

pub returns-in_err-span : goal.returns-in_err-span
returns-in_err-span c =
    let r = element_refused _ _ _ _ c.in_err-span.ensures.answers in
    record { result_value = handed _ _ c.from_residual.ensures.1 r.0; out_after = r.1 }

pub returns : goal.returns
returns c =
    let e = c.in_ok-span.ensures in
    let r = c.corners_in.ensures in
    let s = corners_are _ _ _ _ e.answers e.held.0 in
    record { result_value = r.0 ∙ s.0; out_after = r.1 ∙ s.1 }
