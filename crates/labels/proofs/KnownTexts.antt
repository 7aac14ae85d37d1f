-- The known texts word by word, and the role that a label's words tell.
use Prim.Native.Nat.{ℕ, zero, suc, ◌+◌, ◌-◌, ◌*◌, ◌≤◌, ◌<◌}
use mathlib.Core.Path.{◌≡◌, refl, ap, sym, ◌∙◌}
use mathlib.Core.Bool.{Bool, true, false, not, ◌&&◌, ◌||◌}
use mathlib.Core.List.{List, []}
use native.Mathlib.Omega.{arith}
use native.Mathlib.Nat.{add-zero}
use native.Mathlib.Decide.{ℕ_discrete}
use lib.Dec.{eqb, leb}
use lib.ListN.{length, get_or, take, drop}
use borrow.Author.Tests.{eq-eqb, ne_eqb, eqb-true, eqb-false, leb-true}
use Rattle.model.specs.Bytes.{le, same, spells, text, place_from}
use Rattle.model.specs.Image.{tree_of, node_count, record_at}
use Rattle.model.specs.Containment.{role, known_labels}
use Rattle.model.specs.Lists.{every_from}
use Rattle.model.proofs.Logic.{same-is}
use Rattle.model.proofs.Reading.{label_at}
use Rattle.labels.specs.Padded.{pad, field_word, known_names, known_texts, rest_is, Begins}
use Rattle.words.proofs.Same.{Bytes, Same, same_start}
use Rattle.labels.proofs.Arms.{each}
use Rattle.labels.proofs.Tables.{all_bytes, spelling_more, spelling_stop, spelling_last, placing_past, placing_stop, placing_done}

pub known_length : length known_labels ≡ 14
unfolding known_labels
known_length = refl

pub known_short : (k : ℕ) → k < 24 → length (get_or known_texts k []) ≤ 32
unfolding every_from known_texts known_names known_labels text
known_short k h = leb-true (length (get_or known_texts k [])) 32 (each (λ (j : ℕ). leb (length (get_or known_texts j [])) 32) 24 refl k h)

pub known_bytes : (k : ℕ) → k < 24 → all_bytes (get_or known_texts k []) ≡ true
unfolding every_from known_texts known_names known_labels text
known_bytes k h = each (λ (j : ℕ). all_bytes (get_or known_texts j [])) 24 refl k h

-- the labels come first, then the names
label-text : (k : ℕ) → k < 14 → get_or known_texts k [] ≡ get_or known_labels k []
unfolding every_from same known_texts known_names known_labels text
label-text k h = same-is _ _ (each (λ (j : ℕ). same (get_or known_texts j []) (get_or known_labels j [])) 14 refl k h)

pub name-text : (k : ℕ) → k < 10 → get_or known_texts (14 + k) [] ≡ get_or known_names k []
unfolding every_from same known_texts known_names known_labels text
name-text k h = same-is _ _ (each (λ (j : ℕ). same (get_or known_texts (14 + j) []) (get_or known_names j [])) 10 refl k h)

pub role_root : (b : List ℕ) (i : ℕ) → i ≡ 0 → 15 ≡ role (tree_of b) i
unfolding role
role_root b i e = rw e

pub role_by_label : (b : List ℕ) (i : ℕ) {p : ℕ} → p ≡ record_at i → i < node_count b → (i ≡ 0 → ⊥)
    → place_from 1 (take 32 (drop (p + 32) b)) known_labels ≡ role (tree_of b) i
unfolding role
role_by_label b i {p} e h z = rw (e, ne_eqb i 0 z, label_at b i h)

-- word j of the field of text k
abbrev pub text_word : ℕ → ℕ → ℕ
text_word j k = field_word (get_or known_texts k []) j

abbrev blanks : ℕ
blanks = 0x2020202020202020

-- all fourth words are blanks
pub fourth_blank : (k : ℕ) → k < 24 → blanks ≡ text_word 3 k
unfolding every_from field_word le known_texts known_names known_labels text
fourth_blank k h = eqb-true _ _ (each (λ (n : ℕ). eqb blanks (text_word 3 n)) 24 refl k h)

-- the first words of labels are all different
first_apart : (j k : ℕ) → j < 14 → k < 14 → text_word 0 j ≡ text_word 0 k → j ≡ k
unfolding every_from field_word le known_texts known_names known_labels text
first_apart j k h l e =
    let apart : ℕ → ℕ → Bool = λ (m : ℕ) (n : ℕ). not (eqb (text_word 0 m) (text_word 0 n)) || eqb m n in
    let g = each (apart j) 14 (each (λ (m : ℕ). every_from (apart m) 14 0) 14 refl j h) k l in
    eqb-true j k (rw (eq-eqb (text_word 0 j) (text_word 0 k) e) at g)

-- an arm of the match on first words
pub begins_with : (n : ℕ) {word : ℕ} → n < 14 → word ≡ text_word 0 n → Begins word (suc n)
begins_with n h e =
    let z : suc n - 1 ≡ n = omega arith in
    record { inside = omega arith; is = λ l. rw z e; only = λ k l f. ap suc (first_apart k n l h (sym f ∙ e)) }

-- its last one: none of the first n labels begins with this word
abbrev pub Others : ℕ → ℕ → Type 0
Others zero word = Unit {0}
Others (suc n) word = Others n word × (word ≡ text_word 0 n → ⊥)

other : (n k : ℕ) {word : ℕ} → Others n word → k < n → word ≡ text_word 0 k → ⊥
other zero k a h e = absurd (omega arith)
other (suc n) k a h e =
    elim (ℕ_discrete k n) [
      | yes q ↦ a.1 (rw q at e)
      | no z ↦ other n k a.0 (omega (arith, z)) e
    ]

pub begins-none : {word : ℕ} → Others 14 word → Begins word 0
begins-none a =
    record { inside = omega arith; is = λ h. absurd (omega arith); only = λ k h e. absurd (other 14 k a h e) }

-- the field at p begins as text k does: word by word
module _ (b : List ℕ) (p k : ℕ) (h : p + 32 ≤ length b) (f : Bytes b) (l : k < 24) (e : le 8 (drop p b) ≡ text_word 0 k) where
  one : Same 32 b p (pad 32 (get_or known_texts k [])) 0 (8 * 1)
  one = spelling_more _ 0 (same_start _ _ _ _ _) h f (known_bytes k l) (omega arith) (ap (λ (n : ℕ). le 8 (drop n b)) (add-zero p) ∙ e)

  -- its other words decide
  pub rest-spells : rest_is k (le 8 (drop (p + 8) b)) (le 8 (drop (p + 16) b)) (le 8 (drop (p + 24) b)) ≡ spells (take 32 (drop p b)) (get_or known_texts k [])
  rest-spells = by_second (eqb (le 8 (drop (p + 8) b)) (text_word 1 k)) refl (eqb (le 8 (drop (p + 16) b)) (text_word 2 k)) refl
    where
      by_second : (x : Bool) → eqb (le 8 (drop (p + 8) b)) (text_word 1 k) ≡ x → (y : Bool) → eqb (le 8 (drop (p + 16) b)) (text_word 2 k) ≡ y
          → (x && (y && eqb (le 8 (drop (p + 24) b)) (text_word 3 k))) ≡ spells (take 32 (drop p b)) (get_or known_texts k [])
      by_second false d y g = spelling_stop _ 1 one h f (known_bytes k l) (omega arith) (known_short k l) (eqb-false _ _ d)
      by_second true d y g =
          let two = spelling_more _ 1 one h f (known_bytes k l) (omega arith) (eqb-true _ _ d) in
          by_third two y g
        where
          by_third : Same 32 b p (pad 32 (get_or known_texts k [])) 0 (8 * 2) → (y : Bool) → eqb (le 8 (drop (p + 16) b)) (text_word 2 k) ≡ y
              → (y && eqb (le 8 (drop (p + 24) b)) (text_word 3 k)) ≡ spells (take 32 (drop p b)) (get_or known_texts k [])
          by_third two false g = spelling_stop _ 2 two h f (known_bytes k l) (omega arith) (known_short k l) (eqb-false _ _ g)
          by_third two true g =
              spelling_last _ 3 (spelling_more _ 2 two h f (known_bytes k l) (omega arith) (eqb-true _ _ g)) h f (known_bytes k l) (omega arith) (omega arith)
              (known_short k l)

-- another first word
pub first_off : (b : List ℕ) (p k : ℕ) → p + 32 ≤ length b → Bytes b → k < 24 → (le 8 (drop p b) ≡ text_word 0 k → ⊥)
    → false ≡ spells (take 32 (drop p b)) (get_or known_texts k [])
first_off b p k h f l z =
    spelling_stop (get_or known_texts k []) 0 (same_start _ _ _ _ _) h f (known_bytes k l) (omega arith) (known_short k l)
    (λ e. z (ap (λ (n : ℕ). le 8 (drop n b)) (sym (add-zero p)) ∙ e))

-- the field at p, whose first word only the label of number n may begin with
module _ (b : List ℕ) (p n : ℕ) (h : p + 32 ≤ length b) (f : Bytes b) (o : Begins (le 8 (drop p b)) n) where
  not_begun : (k : ℕ) → k < 14 → (suc k ≡ n → ⊥) → spells (take 32 (drop p b)) (get_or known_texts k []) ≡ false
  not_begun k l z = sym (first_off b p k h f (omega arith) (λ e. z (o.only k l e)))

  pub is_candidate : 0 < n → spells (take 32 (drop p b)) (get_or known_texts (n - 1) []) ≡ true → n ≡ place_from 1 (take 32 (drop p b)) known_labels
  is_candidate l e =
      let m = known_length in
      let u = o.inside in
      let q : n - 1 + 1 ≡ n = omega arith in
      let place : n - 1 + 1 ≡ place_from 1 (take 32 (drop p b)) known_labels =
      placing_stop (placing_past (n - 1) (omega arith) (λ j k. rw (← label-text j (omega arith)) (not_begun j (omega arith) (λ z. absurd (omega arith)))))
      (omega arith) (rw (← label-text (n - 1) (omega arith)) e) in
      sym q ∙ place

  pub no_candidate : (0 < n → spells (take 32 (drop p b)) (get_or known_texts (n - 1) []) ≡ false) → 0 ≡ place_from 1 (take 32 (drop p b)) known_labels
  no_candidate e =
      let m = known_length in
      placing_done (placing_past 14 (omega arith) (λ j k. rw (← label-text j k) (elim (ℕ_discrete (suc j) n) [
        | yes q ↦ let w : n - 1 ≡ j = omega arith in rw w at (e (omega arith))
        | no z ↦ not_begun j k z
      ]))) (omega arith)
