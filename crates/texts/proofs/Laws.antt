-- Texts byte by byte, as loops over their bytes meet them.
use Prim.Native.Nat.{ℕ, zero, suc, ◌+◌, ◌*◌, ◌≤◌, ◌<◌}
use mathlib.Core.Path.{◌≡◌, refl, sym, ap, ◌∙◌}
use mathlib.Core.Bool.{Bool, true, false, cond, not, ◌&&◌, ◌||◌}
use mathlib.Core.List.{List, [], ◌∷◌}
use native.Mathlib.Omega.{arith}
use native.Mathlib.Nat.{zero-add}
use native.Mathlib.Decide.{ℕ_discrete}
use lib.Dec.{eqb, leb, ltb}
use lib.ListN.{length, get_or, take, drop, length-drop}
use lib.Seq.{drop-drop, drop-cons, length-take-le, get_or-take, get_or-drop}
use Rattle.std.specs.List.{sum_by}
use Rattle.std.proofs.lemmas.List.Sums.{sum_by-cons}
use borrow.Author.Tests.{eq-eqb, ne_eqb, leb-true, le-ltb}
use Rattle.model.specs.Lists.{among}
use Rattle.model.specs.Bytes.{le, same}
use Rattle.model.specs.Records.{printable, label_lawful}
use Rattle.model.specs.NameBytes.{first_difference}
use Rattle.model.proofs.Reading.{le-take}
use Rattle.model.proofs.Logic.{and_first, and_second, and-true, and-false}
use Rattle.model.proofs.NameBytes.{place-small, same_place}
use Rattle.model.specs.Image.{Node, node_of, name, label}
use Rattle.records.specs.Table.{all_records, HasRecord}
use Rattle.records.proofs.Tables.{field}
use Rattle.texts.specs.Texts.{text_at, text_byte, bad_byte, text_bytes}

module _ (b : List ℕ) (at : ℕ) (h : at + 32 ≤ length b) where
  pub text-length : length (text_at b at) ≡ 32
  text-length = length-take-le 32 (drop at b) (rw length-drop (omega arith))

  pub text_byte_lem : (k : ℕ) → k < 32 → get_or (text_at b at) k 0 ≡ get_or b (at + k) 0
  text_byte_lem k l = get_or-take 32 (drop at b) k 0 l ∙ get_or-drop at b k 0

  -- the first byte, whatever stands for none
  pub text-first : (d : ℕ) → get_or (text_at b at) 0 d ≡ get_or b at 0
  text-first d = rw (drop-cons b at 0 (omega arith))

regroup : (a p e m : Bool) → (a && p && not (e || m)) ≡ (a && not e && (p && not m))
regroup false p e m = refl
regroup true p false m = refl
regroup true false true m = refl
regroup true true true m = refl

-- no byte counts as one that may not stand where all may
counted : (t : Bool) (n : ℕ) → eqb (cond t 0 1 + n) 0 ≡ (t && eqb n 0)
counted true n = rw zero-add
counted false n = ne_eqb (1 + n) 0 (λ (z : 1 + n ≡ 0). absurd (omega arith))

pub none_bad : (z : ℕ) (s : List ℕ) → eqb (sum_by (bad_byte z) s) 0 ≡ text_bytes z s
unfolding printable among
none_bad z [] = refl
none_bad z (x ∷ s) =
    rw (sum_by-cons (bad_byte z) x s, counted (text_byte z x) (sum_by (bad_byte z) s), none_bad z s)
    (sym (regroup (leb 32 x && leb x 126) (printable s) (eqb z x) (among z s)))

-- the first byte decides, or the others do
module _ (z : ℕ) (s : List ℕ) where
  pub blank-first : get_or s 0 32 ≡ 32 → (label_lawful s && not (among z s)) ≡ false
  unfolding label_lawful
  blank-first e = rw (eq-eqb (get_or s 0 32) 32 e, and-false (printable s))

  pub not-blank : (get_or s 0 32 ≡ 32 → ⊥) → (label_lawful s && not (among z s)) ≡ text_bytes z s
  unfolding label_lawful
  not-blank e = rw (ne_eqb (get_or s 0 32) 32 e, and-true (printable s))

-- no text has a byte 0
no_zero : (s : List ℕ) → printable s ≡ true → among 0 s ≡ false
unfolding printable among
no_zero [] e = refl
no_zero (x ∷ s) e =
    let l = leb-true 32 x (and_first (leb 32 x) _ (and_first (leb 32 x && leb x 126) _ e)) in
    rw (ne_eqb 0 x (λ (q : 0 ≡ x). absurd (omega arith))) (no_zero s (and_second (leb 32 x && leb x 126) (printable s) e))

pub no_zero_barred : (s : List ℕ) → (label_lawful s && not (among 0 s)) ≡ label_lawful s
unfolding label_lawful
no_zero_barred s = by_test (printable s) refl
  where
    by_test : (t : Bool) → printable s ≡ t → (t && not (eqb (get_or s 0 32) 32) && not (among 0 s)) ≡ (t && not (eqb (get_or s 0 32) 32))
    by_test false e = refl
    by_test true e = rw (no_zero s e) (and-true (not (eqb (get_or s 0 32) 32)))

-- a number within the first n bytes
le_within : (k w n : ℕ) (s : List ℕ) → k + w ≤ n → le w (drop k (take n s)) ≡ le w (drop k s)
le_within zero w n s h = le-take w n s (omega arith)
le_within (suc k) w zero s h = absurd (omega arith)
le_within (suc k) w (suc n) [] h = refl
le_within (suc k) w (suc n) (x ∷ s) h = le_within k w n s (omega arith)

-- the word at byte k of a text, read in place
pub word_of : (b : List ℕ) (at k : ℕ) → k + 8 ≤ 32 → le 8 (drop k (text_at b at)) ≡ le 8 (drop (at + k) b)
word_of b at k h = le_within k 8 32 (drop at b) h ∙ ap (le 8) (drop-drop k at b)

-- the texts of a record
module _ (s : List ℕ) (i : ℕ) (h : i < 4096) where
  pub name_in : text_at s (84 * i + 0) ≡ name (all_records s) i
  unfolding name node_of
  name_in = sym (field s 4096 i h (λ (x : Node). x.name) (take 32) 0 (λ r. refl))

  pub label_in : text_at s (84 * i + 32) ≡ label (all_records s) i
  unfolding label node_of
  label_in = sym (field s 4096 i h (λ (x : Node). x.label) (take 32) 32 (λ r. refl))

-- a name in the table has 32 bytes
pub name-size : (s : List ℕ) (i : ℕ) → HasRecord s i → length (name (all_records s) i) ≡ 32
name-size s i h = rw (← name_in s i h.0) (text-length s (84 * i + 0) (omega arith))

-- no byte of two names differs where the place lies past the last
past_last : (n : ℕ) → n ≤ 33 → ltb 32 n ≡ eqb n 33
past_last n h =
    elim (ℕ_discrete n 33) [
      | yes e ↦ rw e
      | no z ↦ le-ltb 32 n (omega (arith, z)) ∙ sym (ne_eqb n 33 z)
    ]

-- two texts are the same where no byte differs
pub same_texts : (s u : List ℕ) → length s ≡ 32 → length u ≡ 32 → same s u ≡ eqb (first_difference s u) 33
same_texts s u m n = same_place s u (m ∙ sym n) ∙ rw m (past_last (first_difference s u) (omega (arith, m, place-small s u)))

pub same_names : (s : List ℕ) (i j : ℕ) → HasRecord s i → HasRecord s j
    → same (name (all_records s) j) (name (all_records s) i) ≡ eqb (first_difference (name (all_records s) j) (name (all_records s) i)) 33
same_names s i j h l = same_texts (name (all_records s) j) (name (all_records s) i) (name-size s j l) (name-size s i h)
