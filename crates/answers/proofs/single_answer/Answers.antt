-- The words of an answer of kind 2.
use mathlib.Core.Path.{refl}
use Rattle.answers.proofs.single_answer.Goals as goal

pub returns : goal.returns
returns c = rw (c.answered.ensures.0, c.answered.ensures.1) (refl, refl)
