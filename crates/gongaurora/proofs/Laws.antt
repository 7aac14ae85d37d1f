-- Laws of answers in lent bytes: how many words there are, and what is written where there is room or none.
use Prim.Native.Nat.{ℕ, ◌*◌, ◌≤◌, ◌<◌}
use mathlib.Core.Path.{◌≡◌, refl, ap, ◌∙◌}
use mathlib.Core.Bool.{Bool}
use mathlib.Core.List.{List}
use lib.ListN.{length}
use borrow.Author.Tests.{le-leb, lt-leb}
use Rattle.model.specs.Lists.{over}
use Rattle.model.specs.Bytes.{all_bytes}
use Rattle.model.specs.Rules.{Answer, rejected, answer, check, ◌then◌, leaves}
use Rattle.model.specs.Validation.{Counts}
use Rattle.model.specs.DataSize.{Sizes}
use Rattle.model.specs.ParentElements.{FaceParents}
use Rattle.model.specs.ArrayValue.{Value, whole, single, double}
use Rattle.model.specs.ReadList.{rule_of}
use Rattle.model.specs.Exports.{validation_words, count_words, usage_words, parent_words, agreement_words, value_words, size_words, words_fit, export_rule, export_bytes, export_memory}

-- how many words an answer has
pub validation_six : (a : Answer Counts) → length (validation_words a) ≡ 6
unfolding validation_words
validation_six (rejected r) = refl
validation_six (answer c) = refl

pub count_three : (a : Answer ℕ) → length (count_words a) ≡ 3
unfolding count_words
count_three (rejected r) = refl
count_three (answer n) = refl

pub usage_four : (a : Answer ℕ) → length (usage_words a) ≡ 4
unfolding usage_words
usage_four (rejected r) = refl
usage_four (answer n) = refl

pub parents_four : (a : Answer FaceParents) → length (parent_words a) ≡ 4
unfolding parent_words
parents_four (rejected r) = refl
parents_four (answer p) = refl

pub agreement_four : (a : Answer Bool) → length (agreement_words a) ≡ 4
unfolding agreement_words
agreement_four (rejected r) = refl
agreement_four (answer y) = refl

pub value_four : (a : Answer Value) → length (value_words a) ≡ 4
unfolding value_words
value_four (rejected r) = refl
value_four (answer (whole n)) = refl
value_four (answer (single bits)) = refl
value_four (answer (double bits)) = refl

pub size_six : (a : Answer Sizes) → length (size_words a) ≡ 6
unfolding size_words
size_six (rejected r) = refl
size_six (answer s) = refl

-- an answer of n words
module _ {A : Type 0} (words : Answer A → List ℕ) (n : ℕ) (long : (a : Answer A) → length (words a) ≡ n) (out : List ℕ) (a : Answer A) where
  -- too few bytes: 46, and nothing is written
  pub short : length out < 8 * n → (46 ≡ export_rule n out a) × (out ≡ export_bytes out (words a))
  unfolding export_rule export_bytes words_fit check ◌then◌ leaves rule_of
  short h = (rw (lt-leb (8 * n) (length out) h), rw (long a, lt-leb (8 * n) (length out) h))

  -- enough: the rule of the call, and its words
  pub enough : {r rule : ℕ} {given left : List ℕ} {x : Answer A} → 8 * n ≤ length out → x ≡ a → (rule ≡ rule_of x) × (given ≡ words x)
      → (r ≡ rule) × (left ≡ over out (all_bytes 8 given)) → (r ≡ export_rule n out a) × (left ≡ export_bytes out (words a))
  unfolding export_rule export_bytes words_fit check ◌then◌ leaves
  enough h e p q =
      let l = le-leb (8 * n) (length out) h in
      (q.0 ∙ p.0 ∙ rw (e, l), q.1 ∙ ap (λ (v : List ℕ). over out (all_bytes 8 v)) p.1 ∙ rw (e, long a, l))

module _ {B : Type 0} (n : ℕ) (out : List ℕ) (memory left : List B) where
  pub memory_short : length out < 8 * n → memory ≡ export_memory n out memory left
  unfolding export_memory words_fit check leaves
  memory_short h = rw (lt-leb (8 * n) (length out) h)

  pub memory_long : 8 * n ≤ length out → left ≡ export_memory n out memory left
  unfolding export_memory words_fit check leaves
  memory_long h = rw (le-leb (8 * n) (length out) h)
