-- By the case of the answer.
use mathlib.Core.Path.{refl}
use Rattle.model.specs.ReadList.{rule_of}
use Rattle.model.specs.Exports.{value_words}
use Rattle.answers.proofs.value_answer.Goals as goal

pub stored_answer-requires : goal.stored_answer-requires
stored_answer-requires c = rw c.in-Ok.is at c.requires

pub returns-in-Ok : goal.returns-in-Ok
unfolding rule_of value_words
returns-in-Ok c = rw (c.stored_answer.ensures.0, c.stored_answer.ensures.1, c.in-Ok.is) (refl, refl)

pub returns-in-Err : goal.returns-in-Err
unfolding rule_of value_words
returns-in-Err c = rw (c.rejected.ensures.0, c.rejected.ensures.1, c.in-Err.is) (refl, refl)
