-- The words are written from the front on.
use mathlib.Core.Path.{refl, ◌∙◌}
use Rattle.model.proofs.Overlays.{over_at_zero}
use Rattle.answers.proofs.put_answer.Goals as goal

pub returns : goal.returns
returns c = (refl, c.put_words.ensures ∙ over_at_zero _ _)
