-- Six texts are longer than two words.
use Prim.Native.Nat.{ℕ}
use mathlib.Core.Path.{◌≡◌, refl, ap, sym}
use mathlib.Core.List.{[], ◌∷◌}
use lib.Dec.{eqb}
use borrow.Author.Tests.{eqb-true}
use Rattle.model.specs.Lists.{every_from, among}
use native.Mathlib.Omega.{arith}
use Rattle.model.specs.Bytes.{le, text}
use Rattle.model.specs.Containment.{known_labels}
use Rattle.labels.specs.Padded.{field_word, known_names, known_texts}
use Rattle.labels.proofs.Arms.{last_of}
use Rattle.labels.proofs.KnownTexts.{text_word}
use Rattle.labels.proofs.known.third_word.Goals as goal

arm : {k n : ℕ} → k ≡ n → text_word 2 n ≡ text_word 2 k
arm e = ap (text_word 2) (sym e)

pub returns-in-0 : goal.returns-in-0
unfolding every_from among field_word le known_texts known_names known_labels text
returns-in-0 c = arm c.in-0.is

pub returns-in-4 : goal.returns-in-4
unfolding every_from among field_word le known_texts known_names known_labels text
returns-in-4 c = arm c.in-4.is

pub returns-in-12 : goal.returns-in-12
unfolding every_from among field_word le known_texts known_names known_labels text
returns-in-12 c = arm c.in-12.is

pub returns-in-14 : goal.returns-in-14
unfolding every_from among field_word le known_texts known_names known_labels text
returns-in-14 c = arm c.in-14.is

pub returns-in-19 : goal.returns-in-19
unfolding every_from among field_word le known_texts known_names known_labels text
returns-in-19 c = arm c.in-19.is

pub returns-in-20 : goal.returns-in-20
unfolding every_from among field_word le known_texts known_names known_labels text
returns-in-20 c = arm c.in-20.is

pub returns-in_default : goal.returns-in_default
unfolding every_from among field_word le known_texts known_names known_labels text
returns-in_default c = eqb-true _ _ (last_of (20 ∷ 19 ∷ 14 ∷ 12 ∷ 4 ∷ 0 ∷ []) (λ (k : ℕ). eqb 0x2020202020202020 (text_word 2 k)) 24 refl (omega arith) c.in_default.in_default-own.rest)
