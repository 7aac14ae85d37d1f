-- By the case of the answer.
use Prim.Native.Nat.{ℕ}
use mathlib.Core.Path.{refl, ap}
use mathlib.Core.List.{[], ◌∷◌}
use Rattle.model.specs.ReadList.{rule_of}
use Rattle.model.specs.Exports.{agreement_words}
use Rattle.answers.proofs.Bits.{one_if}
use Rattle.answers.proofs.agreement_answer.Goals as goal

pub returns-in-Ok : goal.returns-in-Ok
unfolding rule_of agreement_words
returns-in-Ok c =
    rw (c.answered.ensures.0, c.answered.ensures.1, c.in-Ok.is) (refl, ap (λ (n : ℕ). 0 ∷ 0 ∷ 0 ∷ n ∷ []) (one_if c.in-Ok.y))

pub returns-in-Err : goal.returns-in-Err
unfolding rule_of agreement_words
returns-in-Err c = rw (c.rejected.ensures.0, c.rejected.ensures.1, c.in-Err.is) (refl, refl)
