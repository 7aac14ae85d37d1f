-- A field of 32 bytes against a padded text, and the search in a list of texts for what a field holds.
use Prim.Native.Nat.{ℕ, zero, suc, ◌+◌, ◌*◌, ◌≤◌, ◌<◌}
use mathlib.Core.Path.{◌≡◌, refl, ap, sym, ◌∙◌}
use mathlib.Core.Bool.{Bool, true, false, cond, ◌&&◌}
use mathlib.Core.List.{List, [], ◌∷◌}
use native.Mathlib.Omega.{arith}
use native.Mathlib.Nat.{zero-add}
use native.Mathlib.Numerals.{add-one}
use lib.Dec.{eqb, leb}
use lib.ListN.{length, get_or, take, drop, drop_of_length-le, length-drop}
use lib.Seq.{take_all, drop-cons, length-take-le}
use borrow.Author.Tests.{leb-true, eqb-true, eqb-false}
use Rattle.model.specs.Bytes.{le, same, spells, blank, place_from}
use Rattle.model.proofs.Logic.{and_first, and_second}
use Rattle.labels.specs.Padded.{pad, field_word}
use Rattle.words.proofs.Same.{Bytes, Same, same_more_word, same_stop_word, same-done}

pub length-pad : (n : ℕ) (x : List ℕ) → length (pad n x) ≡ n
length-pad zero x = refl
length-pad (suc n) [] = ap suc (length-pad n [])
length-pad (suc n) (y ∷ x) = ap suc (length-pad n x)

-- a field of n bytes holds a text where it is the padded text
pub spells-pad : (n : ℕ) (s x : List ℕ) → length s ≡ n → length x ≤ n → spells s x ≡ same s (pad n x)
unfolding spells same blank
spells-pad zero [] [] h l = refl
spells-pad zero [] (y ∷ x) h l = absurd (omega arith)
spells-pad zero (z ∷ s) x h l = absurd (omega arith)
spells-pad (suc n) [] x h l = absurd (omega arith)
spells-pad (suc n) (z ∷ s) [] h l = ap (λ (r : Bool). eqb z 32 && r) (spells-pad n s [] (omega arith) (omega arith))
spells-pad (suc n) (z ∷ s) (y ∷ x) h l = ap (λ (r : Bool). eqb z y && r) (spells-pad n s x (omega arith) (omega arith))

-- the field at p against a padded text
pub field-spells : (b : List ℕ) (p : ℕ) (x : List ℕ) → p + 32 ≤ length b → length x ≤ 32
    → same (take 32 (drop p b)) (take 32 (drop 0 (pad 32 x))) ≡ spells (take 32 (drop p b)) x
field-spells b p x h m =
    let e : length (pad 32 x) ≤ 32 = rw (length-pad 32 x) (omega arith) in
    rw (take_all 32 (pad 32 x) e) (sym (spells-pad 32 (take 32 (drop p b)) x (length-take-le 32 (drop p b) (rw length-drop (omega arith))) m))

-- its bytes
abbrev pub all_bytes : List ℕ → Bool
all_bytes [] = true
all_bytes (y ∷ x) = leb y 255 && all_bytes x

pub pad-bytes : (n : ℕ) (x : List ℕ) → all_bytes x ≡ true → Bytes (pad n x)
pad-bytes zero x e i = omega arith
pad-bytes (suc n) [] e zero = omega arith
pad-bytes (suc n) [] e (suc i) = pad-bytes n [] refl i
pad-bytes (suc n) (y ∷ x) e zero = let l = leb-true y 255 (and_first (leb y 255) (all_bytes x) e) in omega arith
pad-bytes (suc n) (y ∷ x) e (suc i) = pad-bytes n x (and_second (leb y 255) (all_bytes x) e) i

pad_full : (x : List ℕ) → 0 + 32 ≤ length (pad 32 x)
pad_full x = rw (length-pad 32 x) (omega arith)

-- the field at p against the words of a text: after the last one
spelling_done : {b : List ℕ} {p : ℕ} (x : List ℕ) (j : ℕ) → Same 32 b p (pad 32 x) 0 (8 * j) → p + 32 ≤ length b → length x ≤ 32 → 4 ≤ j
    → true ≡ spells (take 32 (drop p b)) x
spelling_done {b} {p} x j l h m k = same-done l h (pad_full x) (omega arith) ∙ field-spells b p x h m

-- at word j
module _ {b : List ℕ} {p : ℕ} (x : List ℕ) (j : ℕ) (l : Same 32 b p (pad 32 x) 0 (8 * j)) (h : p + 32 ≤ length b) (f : Bytes b) (a : all_bytes x ≡ true)
    (k : j < 4) where
  pub spelling_more : le 8 (drop (p + 8 * j) b) ≡ field_word x j → Same 32 b p (pad 32 x) 0 (8 * (j + 1))
  unfolding field_word
  spelling_more e =
      let y : 8 * j + 8 ≡ 8 * (j + 1) = omega arith in
      rw y at (same_more_word l h (pad_full x) 8 (omega arith) f (pad-bytes 32 x a) (rw (zero-add (8 * j)) e))

  pub spelling_stop : length x ≤ 32 → (le 8 (drop (p + 8 * j) b) ≡ field_word x j → ⊥) → false ≡ spells (take 32 (drop p b)) x
  unfolding field_word
  spelling_stop m e = same_stop_word l h (pad_full x) 8 (omega arith) f (pad-bytes 32 x a) (rw (zero-add (8 * j)) e) ∙ field-spells b p x h m

  -- the last word decides
  pub spelling_last : 4 ≡ j + 1 → length x ≤ 32 → eqb (le 8 (drop (p + 8 * j) b)) (field_word x j) ≡ spells (take 32 (drop p b)) x
  spelling_last n m = by_test (eqb (le 8 (drop (p + 8 * j) b)) (field_word x j)) refl
    where
      by_test : (c : Bool) → eqb (le 8 (drop (p + 8 * j) b)) (field_word x j) ≡ c → c ≡ spells (take 32 (drop p b)) x
      by_test true e = spelling_done x (j + 1) (spelling_more (eqb-true _ _ e)) h m (omega arith)
      by_test false e = spelling_stop m (eqb-false _ _ e)

-- the search for a field's text in a list of texts has come to text k: what is left gives the whole
pub record Placing (s : List ℕ) (ts : List (List ℕ)) (k : ℕ) : Type 0 where
  pub inside : k ≤ length ts
  pub rest : place_from (suc k) s (drop k ts) ≡ place_from 1 s ts

pub placing_start : (s : List ℕ) (ts : List (List ℕ)) → Placing s ts 0
placing_start s ts = record { inside = omega arith; rest = refl }

module _ {s : List ℕ} {ts : List (List ℕ)} {k : ℕ} (l : Placing s ts k) where
  pub placing_done : length ts ≤ k → 0 ≡ place_from 1 s ts
  unfolding place_from
  placing_done h = rw (drop_of_length-le ts h) at l.rest

  module _ (h : k < length ts) where
    step : cond (spells s (get_or ts k [])) (suc k) (place_from (suc (suc k)) s (drop (suc k) ts)) ≡ place_from 1 s ts
    unfolding place_from
    step = rw (drop-cons ts k [] h) at l.rest

    pub placing_stop : spells s (get_or ts k []) ≡ true → k + 1 ≡ place_from 1 s ts
    placing_stop e = add-one k ∙ rw e at step

    pub placing_more : spells s (get_or ts k []) ≡ false → Placing s ts (k + 1)
    placing_more e = record { inside = omega arith; rest = rw add-one (rw e at step) }

-- texts that the field does not hold are passed over
pub placing_past : {s : List ℕ} {ts : List (List ℕ)} (k : ℕ) → k ≤ length ts → ((j : ℕ) → j < k → spells s (get_or ts j []) ≡ false) → Placing s ts k
placing_past {s} {ts} zero h f = placing_start s ts
placing_past {s} {ts} (suc k) h f =
    rw add-one at (placing_more {s = s} {ts = ts} (placing_past k (omega arith) (λ j l. f j (omega arith))) (omega arith) (f k (omega arith)))
