-- The fourth word of every known text is blanks.
use mathlib.Core.Path.{sym, ◌∙◌}
use native.Mathlib.Omega.{arith}
use borrow.Author.Tests.{eq-eqb, eqb-true}
use Rattle.labels.proofs.KnownTexts.{fourth_blank}
use Rattle.labels.proofs.known.rest_is.Goals as goal
use Rattle.labels.proofs.known.rest_is.Goals.{then-second-second_word, else-second-second_word}

pub returns-then-third-third_word : goal.returns-then-third-third_word
returns-then-third-third_word c =
    elim c.if-second-second_word.branch [
      | then-second-second_word w ↦
          let third = rw w.third_word.ensures at (sym w.value-is ∙ c.if-third-third_word.true) in
          rw (eq-eqb _ _ (w.if-second-second_word.true ∙ c.second_word.ensures), third, ← fourth_blank c.args.k (omega arith))
      | else-second-second_word w ↦ absurd (w.if-second-second_word.false (eqb-true _ _ (sym w.value-is ∙ c.if-third-third_word.true)))
    ]
