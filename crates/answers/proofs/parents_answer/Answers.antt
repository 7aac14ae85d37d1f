-- By the case of the answer.
use mathlib.Core.Path.{refl}
use Rattle.model.specs.ReadList.{rule_of}
use Rattle.model.specs.Exports.{parent_words}
use Rattle.answers.proofs.parents_answer.Goals as goal

pub returns-in-Ok : goal.returns-in-Ok
unfolding rule_of parent_words
returns-in-Ok c = rw (c.answered.ensures.0, c.answered.ensures.1, c.in-Ok.is) (refl, refl)

pub returns-in-Err : goal.returns-in-Err
unfolding rule_of parent_words
returns-in-Err c = rw (c.rejected.ensures.0, c.rejected.ensures.1, c.in-Err.is) (refl, refl)
