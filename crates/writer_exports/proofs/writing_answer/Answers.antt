-- Case by case.
use mathlib.Core.Path.{refl}
use Rattle.model.specs.ReadList.{rule_of}
use Rattle.writer_model.specs.Exports.{writing_words}
use Rattle.writer_exports.proofs.writing_answer.Goals as goal

pub returns-in-Ok : goal.returns-in-Ok
unfolding rule_of writing_words
returns-in-Ok c = rw c.in-Ok.is (refl, refl)

pub returns-in-Err : goal.returns-in-Err
unfolding rule_of writing_words
returns-in-Err c = rw c.in-Err.is (refl, refl)
