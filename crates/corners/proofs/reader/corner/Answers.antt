-- What is told of the span, and what `corner_in` answers of it.
use mathlib.Core.Path.{refl, ◌∙◌}
use Rattle.model.proofs.Staging.{handed}
use Rattle.corners.proofs.Outcomes.{corner_refused, corner-is}
use Rattle.corners.proofs.reader.corner.Goals as goal

pub returns-in_err-span : goal.returns-in_err-span
returns-in_err-span c =
    record {
      answers = handed _ _ c.from_residual.ensures.1 (corner_refused _ _ _ _ c.in_err-span.ensures.answers);
      image-kept = refl;
    }

pub returns : goal.returns
returns c =
    let e = c.in_ok-span.ensures in
    record {
      answers = c.corner_in.ensures ∙ corner-is _ _ _ _ e.answers e.held.0;
      image-kept = refl;
    }
