-- The keys: a node is for one slot at most.
use Prim.Native.Nat.{ℕ, ◌≤◌, ◌<◌}
use mathlib.Core.Path.{◌≡◌, refl, sym, ◌∙◌}
use mathlib.Core.Bool.{Bool, true, false, not, ◌||◌, and-false}
use mathlib.Core.List.{List, [], ◌∷◌}
use native.Mathlib.Omega.{arith}
use native.Mathlib.Decide.{ℕ_discrete}
use lib.Dec.{eqb, leb}
use lib.ListN.{get_or}
use borrow.Author.Tests.{eq-eqb, ne_eqb, eqb-true, leb-true}
use Rattle.model.specs.Lists.{row, among, seek_from, every_from}
use Rattle.model.specs.Bytes.{text, spells}
use Rattle.model.specs.Image.{Tree, name}
use Rattle.model.specs.Containment.{role}
use Rattle.model.proofs.Logic.{untrue, and_first, and_second}
use Rattle.model.proofs.Walks.{seek_before}
use Rattle.labels.specs.Padded.{known_names}
use Rattle.labels.proofs.Arms.{each}
use Rattle.index.specs.Keys.{key_roles, slot_keys, key_at, key_role, key_name, is_key, has_role, first_slot, SlotOf}

-- what holds of every slot of every kind holds of this one
every_slot : (p : ℕ → ℕ → Bool) → every_from (λ (a : ℕ). every_from (p a) 4 0) 16 0 ≡ true → (above k : ℕ) → above < 16 → k < 4 → p above k ≡ true
every_slot p e above k h l = each (p above) 4 (each (λ (a : ℕ). every_from (p a) 4 0) 16 e above h) k l

pub key-few : (above k : ℕ) → above < 16 → k < 4 → key_at above k ≤ 10
unfolding every_from key_at row slot_keys
key-few above k h l = leb-true (key_at above k) 10 (every_slot (λ a i. leb (key_at a i) 10) refl above k h l)

-- two texts that differ in a byte that both have: no field holds both
abbrev clash : List ℕ → List ℕ → Bool
clash [] y = false
clash (a ∷ x) [] = false
clash (a ∷ x) (b ∷ y) = not (eqb a b) || clash x y

one-text : (s x y : List ℕ) → clash x y ≡ true → spells s x ≡ true → spells s y ≡ false
unfolding spells
one-text s [] y c e = untrue c
one-text s (a ∷ x) [] c e = untrue c
one-text [] (a ∷ x) (b ∷ y) c e = refl
one-text (z ∷ s) (a ∷ x) (b ∷ y) c e =
    let q : z ≡ a = eqb-true z a (and_first (eqb z a) (spells s x) e) in
    elim (ℕ_discrete z b) [
      | yes p ↦ rw (eq-eqb z b p) (one-text s x y (let f : a ≡ b = sym q ∙ p in rw (eq-eqb a b f) at c) (and_second (eqb z a) (spells s x) e))
      | no n ↦ rw (ne_eqb z b n)
    ]

-- two slots of a node differ in their roles or in their names
abbrev differ : ℕ → ℕ → ℕ → Bool
differ a i k = eqb i k || (not (eqb (key_role a i) (key_role a k)) || (eqb (key_role a i) 16 || clash (key_name a i) (key_name a k)))

all_differ : (a i k : ℕ) → a < 16 → i < 4 → k < 4 → differ a i k ≡ true
unfolding every_from key_at key_role key_name row slot_keys key_roles known_names text
all_differ a i k h l m = each (differ a i) 4 (every_slot (λ b n. every_from (differ b n) 4 0) refl a i h l) k m

module _ (t : Tree) (above j : ℕ) {below : ℕ} (h : above < 16) (b : below ≡ role t j) (r : below < 16) where
  other_slot : (i k : ℕ) → i < 4 → k < 4 → (i ≡ k → ⊥) → is_key t above i j ≡ true → is_key t above k j ≡ false
  unfolding is_key
  other_slot i k l m z e =
      let q = eqb-true _ _ (and_first (eqb (role t j) (key_role above i)) (spells (name t j) (key_name above i)) e) in
      let s = and_second (eqb (role t j) (key_role above i)) (spells (name t j) (key_name above i)) e in
      elim (ℕ_discrete (role t j) (key_role above k)) [
        | yes p ↦
            let n : key_role above i ≡ key_role above k = sym q ∙ p in
            let o : key_role above i ≡ 16 → ⊥ = λ y. absurd (omega arith) in
            rw (one-text (name t j) (key_name above i) (key_name above k) (rw (ne_eqb i k z, eq-eqb _ _ n, ne_eqb (key_role above i) 16 o) at
            (all_differ above i k h l m)) s) (and-false (eqb (role t j) (key_role above k)))
        | no n ↦ rw (ne_eqb (role t j) (key_role above k) n)
      ]

  -- the search for the slot has come to slot k
  pub not-before : {k : ℕ} → k ≤ first_slot above below → (i : ℕ) → i < 4 → i < k → is_key t above i j ≡ false
  unfolding is_key first_slot has_role
  not-before {k} e i l m =
      rw (ne_eqb (role t j) (key_role above i) (λ q. let f = seek_before (has_role above below) 4 0 i (eq-eqb _ _ (sym q ∙ sym b)) (omega arith)
      (omega arith) in absurd (omega arith)))

  pub no_slot : 4 ≤ first_slot above below → SlotOf t above j 4
  no_slot e = record { is = λ k l. not-before e k l l ∙ sym (ne_eqb k 4 (λ q. absurd (omega arith))) }

  pub slot_found : (k : ℕ) → k < 4 → is_key t above k j ≡ true → SlotOf t above j k
  slot_found k l e =
      record {
        is = λ i m. elim (ℕ_discrete i k) [
          | yes q ↦ rw (eq-eqb i k q, q) e
          | no z ↦ other_slot k i l m (λ y. z (sym y)) e ∙ sym (ne_eqb i k z)
        ];
      }

-- no slot below a node that is not validated, and none for a node with another label
pub none_above : (below : ℕ) → below < 16 → 4 ≤ first_slot 0 below
unfolding every_from among row slot_keys key_at key_roles key_role has_role seek_from first_slot
none_above below h = leb-true 4 (first_slot 0 below) (each (λ (k : ℕ). leb 4 (first_slot 0 k)) 16 refl below h)

pub none_below : (above : ℕ) → above < 16 → 4 ≤ first_slot above 0
unfolding every_from among row slot_keys key_at key_roles key_role has_role seek_from first_slot
none_below above h = leb-true 4 (first_slot above 0) (each (λ (k : ℕ). leb 4 (first_slot k 0)) 16 refl above h)

-- node j has the role `below`, and slot k a key of the role r
module _ (t : Tree) (above k j : ℕ) {key r below : ℕ} (e : key ≡ key_at above k) (f : r ≡ get_or key_roles key 16) (g : below ≡ role t j) where
  pub key-off : (r ≡ below → ⊥) → false ≡ is_key t above k j
  unfolding is_key key_role
  key-off z = rw (← e, ← f, ← g, ne_eqb below r (λ q. z (sym q)))

  pub key-on : {c : Bool} → r ≡ below → c ≡ spells (name t j) (get_or known_names key []) → c ≡ is_key t above k j
  unfolding is_key key_role key_name
  key-on q h = rw (← e, ← f, ← g, eq-eqb below r (sym q)) h
