-- Six numbers of a state, and what is lent for it and for the answer.
use Prim.Native.Nat.{ℕ, suc, ◌*◌, ◌≤◌, ◌<◌}
use native.Mathlib.Omega.{arith}
use mathlib.Core.Path.{◌≡◌, refl, sym, ap, ◌∙◌}
use mathlib.Core.Bool.{Bool, true, false}
use mathlib.Core.List.{List, [], ◌∷◌}
use lib.ListN.{length, drop, set}
use lib.Dec.{leb}
use borrow.Author.Tests.{le-leb, lt-leb}
use Rattle.model.specs.Lists.{over}
use Rattle.model.specs.Bytes.{all_bytes}
use Rattle.model.specs.Rules.{◌unless◌, Answer, rejected, answer, rejection, Check, passed, check, ◌then◌, leaves}
use Rattle.model.specs.ReadList.{rule_of}
use Rattle.model.specs.Exports.{count_words}
use Rattle.writer_model.specs.declared.Writer.{Writer}
use Rattle.writer_model.specs.Writer.{finish_answer}
use Rattle.writer_model.specs.Exports.{state_in, state_fits, state_numbers, state_after, writing_words, WritingExport, FinishExport}

-- six numbers written one by one
pub six : (l : List ℕ) (a b c d e f : ℕ) → 6 ≤ length l → set (set (set (set (set (set l 0 a) 1 b) 2 c) 3 d) 4 e) 5 f ≡ over l (a ∷ b ∷ c ∷ d ∷ e ∷ f ∷ [])
unfolding over
six [] a b c d e f h = absurd (omega arith)
six (p ∷ []) a b c d e f h = absurd (omega arith)
six (p ∷ q ∷ []) a b c d e f h = absurd (omega arith)
six (p ∷ q ∷ r ∷ []) a b c d e f h = absurd (omega arith)
six (p ∷ q ∷ r ∷ s ∷ []) a b c d e f h = absurd (omega arith)
six (p ∷ q ∷ r ∷ s ∷ t ∷ []) a b c d e f h = absurd (omega arith)
six (p ∷ q ∷ r ∷ s ∷ t ∷ u ∷ l) a b c d e f h = refl

-- too little is lent, or enough
module _ (n : ℕ) (state out : List ℕ) where
  pub few-numbers : length state < 6 → state_fits n state out ≡ rejected (rejection 46 0)
  unfolding state_fits check
  few-numbers h = rw (lt-leb 6 (length state) h)

  pub few_bytes : 6 ≤ length state → length out < 8 * n → state_fits n state out ≡ rejected (rejection 46 0)
  unfolding state_fits check
  few_bytes l h = rw (le-leb 6 (length state) l, lt-leb (8 * n) (length out) h)

  pub enough : 6 ≤ length state → 8 * n ≤ length out → state_fits n state out ≡ passed
  unfolding state_fits check
  enough l h = rw (le-leb 6 (length state) l, le-leb (8 * n) (length out) h)

module _ (told : Answer Writer) (left room state out : List ℕ) where
  -- refused by what is lent: nothing is written
  pub short : state_fits 2 state out ≡ rejected (rejection 46 0) → WritingExport told left room state out 46 room state out
  unfolding leaves ◌then◌ rule_of
  short e = record { rule-is = rw e; room-is = rw e; state-is = rw e; answer-is = rw e }

  pub written : {r : ℕ} {room' state' out' : List ℕ} → state_fits 2 state out ≡ passed → r ≡ rule_of told → room' ≡ left → state' ≡ state_after told state
      → out' ≡ over out (all_bytes 8 (writing_words told)) → WritingExport told left room state out r room' state' out'
  unfolding leaves ◌then◌
  written e r m s o = record { rule-is = rw e r; room-is = rw e m; state-is = rw e s; answer-is = rw e o }

module _ (room state out : List ℕ) where
  pub short_finish : state_fits 3 state out ≡ rejected (rejection 46 0) → FinishExport room state out 46 out
  unfolding leaves ◌then◌ rule_of
  short_finish e = record { rule-is = rw e; answer-is = rw e }

  pub finished : {r : ℕ} {out' : List ℕ} → state_fits 3 state out ≡ passed → r ≡ rule_of (finish_answer (state_in state) room)
      → out' ≡ over out (all_bytes 8 (count_words (finish_answer (state_in state) room))) → FinishExport room state out r out'
  unfolding leaves ◌then◌
  finished e r o = record { rule-is = rw e r; answer-is = rw e o }

-- the words of an answer are as many as it has
pub two-words : (told : Answer Writer) → length (writing_words told) ≡ 2
unfolding writing_words
two-words (rejected r) = refl
two-words (answer s) = refl

pub three_words : (told : Answer ℕ) → length (count_words told) ≡ 3
unfolding count_words
three_words (rejected r) = refl
three_words (answer n) = refl
