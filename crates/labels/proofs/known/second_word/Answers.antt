-- Each arm has its text's word.
use Prim.Native.Nat.{ℕ}
use mathlib.Core.Path.{◌≡◌, ap, sym}
use native.Mathlib.Omega.{arith}
use Rattle.model.specs.Bytes.{le, text}
use Rattle.model.specs.Containment.{known_labels}
use Rattle.labels.specs.Padded.{field_word, known_names, known_texts}
use Rattle.labels.proofs.KnownTexts.{text_word}
use Rattle.model.proofs.Logic.{last_arm}
use Rattle.labels.proofs.known.second_word.Goals as goal

arm : {k n : ℕ} → k ≡ n → text_word 1 n ≡ text_word 1 k
arm e = ap (text_word 1) (sym e)

pub returns-in-0 : goal.returns-in-0
unfolding field_word le known_texts known_names known_labels text
returns-in-0 c = arm c.in-0.is

pub returns-in-1 : goal.returns-in-1
unfolding field_word le known_texts known_names known_labels text
returns-in-1 c = arm c.in-1.is

pub returns-in-2 : goal.returns-in-2
unfolding field_word le known_texts known_names known_labels text
returns-in-2 c = arm c.in-2.is

pub returns-in-3 : goal.returns-in-3
unfolding field_word le known_texts known_names known_labels text
returns-in-3 c = arm c.in-3.is

pub returns-in-4 : goal.returns-in-4
unfolding field_word le known_texts known_names known_labels text
returns-in-4 c = arm c.in-4.is

pub returns-in-5 : goal.returns-in-5
unfolding field_word le known_texts known_names known_labels text
returns-in-5 c = arm c.in-5.is

pub returns-in-6 : goal.returns-in-6
unfolding field_word le known_texts known_names known_labels text
returns-in-6 c = arm c.in-6.is

pub returns-in-7 : goal.returns-in-7
unfolding field_word le known_texts known_names known_labels text
returns-in-7 c = arm c.in-7.is

pub returns-in-8 : goal.returns-in-8
unfolding field_word le known_texts known_names known_labels text
returns-in-8 c = arm c.in-8.is

pub returns-in-9 : goal.returns-in-9
unfolding field_word le known_texts known_names known_labels text
returns-in-9 c = arm c.in-9.is

pub returns-in-10 : goal.returns-in-10
unfolding field_word le known_texts known_names known_labels text
returns-in-10 c = arm c.in-10.is

pub returns-in-11 : goal.returns-in-11
unfolding field_word le known_texts known_names known_labels text
returns-in-11 c = arm c.in-11.is

pub returns-in-12 : goal.returns-in-12
unfolding field_word le known_texts known_names known_labels text
returns-in-12 c = arm c.in-12.is

pub returns-in-13 : goal.returns-in-13
unfolding field_word le known_texts known_names known_labels text
returns-in-13 c = arm c.in-13.is

pub returns-in-14 : goal.returns-in-14
unfolding field_word le known_texts known_names known_labels text
returns-in-14 c = arm c.in-14.is

pub returns-in-15 : goal.returns-in-15
unfolding field_word le known_texts known_names known_labels text
returns-in-15 c = arm c.in-15.is

pub returns-in-16 : goal.returns-in-16
unfolding field_word le known_texts known_names known_labels text
returns-in-16 c = arm c.in-16.is

pub returns-in-17 : goal.returns-in-17
unfolding field_word le known_texts known_names known_labels text
returns-in-17 c = arm c.in-17.is

pub returns-in-18 : goal.returns-in-18
unfolding field_word le known_texts known_names known_labels text
returns-in-18 c = arm c.in-18.is

pub returns-in-19 : goal.returns-in-19
unfolding field_word le known_texts known_names known_labels text
returns-in-19 c = arm c.in-19.is

pub returns-in-20 : goal.returns-in-20
unfolding field_word le known_texts known_names known_labels text
returns-in-20 c = arm c.in-20.is

pub returns-in-21 : goal.returns-in-21
unfolding field_word le known_texts known_names known_labels text
returns-in-21 c = arm c.in-21.is

pub returns-in-22 : goal.returns-in-22
unfolding field_word le known_texts known_names known_labels text
returns-in-22 c = arm c.in-22.is

pub returns-in_default : goal.returns-in_default
unfolding field_word le known_texts known_names known_labels text
returns-in_default c = arm (last_arm 23 _ c.in_default.in_default-own.rest (omega arith))
