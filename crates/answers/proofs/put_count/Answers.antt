-- By the case of the answer: the count or 0 is written.
use mathlib.Core.Path.{refl, ◌∙◌}
use Rattle.model.specs.ReadList.{rule_of}
use Rattle.model.specs.Exports.{count_word}
use Rattle.model.proofs.Overlays.{over_at_zero}
use Rattle.answers.proofs.put_count.Goals as goal

pub returns-in-Ok : goal.returns-in-Ok
unfolding rule_of count_word
returns-in-Ok c = rw c.in-Ok.is (refl, c.put_word.ensures ∙ over_at_zero _ _)

pub returns-in-Err : goal.returns-in-Err
unfolding rule_of count_word
returns-in-Err c = rw c.in-Err.is (refl, c.put_word-in-Err.ensures ∙ over_at_zero _ _)
