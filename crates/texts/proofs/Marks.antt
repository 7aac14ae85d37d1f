-- Marks of keys and nodes linked by them: what was marked stays marked, and an earlier sibling of one name would be marked, and linked.
use Prim.Native.Nat.{ℕ, ◌+◌, ◌-◌, ◌%◌, ◌≤◌, ◌<◌}
use mathlib.Core.Path.{◌≡◌, refl, sym, ap₂, subst, ◌∙◌}
use mathlib.Core.Bool.{Bool, true, false, cond, ◌||◌}
use mathlib.Core.List.{List}
use native.Mathlib.Omega.{arith}
use native.Mathlib.Decide.{ℕ_discrete}
use lib.Dec.{eqb, ltb}
use lib.ListN.{length, get_or, set, length-set}
use lib.Seq.{get_or-set_same, get_or-set_other}
use borrow.Author.Count.{below_more}
use borrow.Author.Tests.{eqb-true, eq-eqb, ne_eqb, ltb-true, ltb-false}
use Rattle.model.specs.Image.{Tree, parent, name}
use Rattle.model.specs.Records.{sibling, namesake, name_taken}
use Rattle.model.proofs.Loops.{some_start, some-done}
use Rattle.model.proofs.Logic.{same-is, untrue, and_first, and_second, or_right}
use Rattle.model.proofs.Walks.{some_by}
use Rattle.texts.specs.Keys.{name_key, key_at, class_of, place_of, mark_of, marked, with_key, with_node, may_be_marked, Seen}
use Rattle.texts.specs.Links.{LastOf, Linked, NoneLinked, with_link}
use Rattle.texts.proofs.Linking.{linked_start, linked-same, linked_on}

pub key-small : (t : Tree) (i : ℕ) → key_at t i < 4194304
unfolding key_at name_key
key-small t i = omega arith

-- what a mark leaves of a place: a mark that was there, and its own
module _ (x m : ℕ) where
  mark_stays : (k : ℕ) → 0 < k → (eqb x 65535 || eqb x k) ≡ true → (eqb (marked x m) 65535 || eqb (marked x m) k) ≡ true
  mark_stays k l h = by_test (eqb x 0) (eqb x m) refl refl
    where
      by_test : (a b : Bool) → eqb x 0 ≡ a → eqb x m ≡ b → (eqb (cond a m (cond b m 65535)) 65535 || eqb (cond a m (cond b m 65535)) k) ≡ true
      by_test true b e f = untrue (rw (eqb-true x 0 e, ne_eqb 0 k (λ (z : 0 ≡ k). absurd (omega arith))) at h)
      by_test false true e f = rw (eqb-true x m f) at h
      by_test false false e f = refl

  mark_there : (eqb (marked x m) 65535 || eqb (marked x m) m) ≡ true
  mark_there = by_test (eqb x 0) (eqb x m)
    where
      own : (eqb m 65535 || eqb m m) ≡ true
      own = or_right (eqb m 65535) (eqb m m) (eq-eqb m m refl)

      by_test : (a b : Bool) → (eqb (cond a m (cond b m 65535)) 65535 || eqb (cond a m (cond b m 65535)) m) ≡ true
      by_test true b = own
      by_test false true = own
      by_test false false = refl

module _ (seen : List ℕ) (room : 16384 ≤ length seen) (key : ℕ) (h : key < 4194304) where
  met_still : (k : ℕ) → may_be_marked seen k ≡ true → may_be_marked (with_key seen key) k ≡ true
  unfolding may_be_marked with_key
  met_still k e =
      elim (ℕ_discrete (place_of k) (place_of key)) [
        | yes q ↦ rw (q, get_or-set_same seen (place_of key) (marked (get_or seen (place_of key) 0) (mark_of key)) 0 (omega arith))
            (mark_stays (get_or seen (place_of key) 0) (mark_of key) (mark_of k) (omega arith) (rw q at e))
        | no n ↦ rw (get_or-set_other seen (place_of key) (place_of k) (marked (get_or seen (place_of key) 0) (mark_of key)) 0 n) e
      ]

  met_now : may_be_marked (with_key seen key) key ≡ true
  unfolding may_be_marked with_key
  met_now =
      rw (get_or-set_same seen (place_of key) (marked (get_or seen (place_of key) 0) (mark_of key)) 0 (omega arith))
      (mark_there (get_or seen (place_of key) 0) (mark_of key))

  room_still : 16384 ≤ length (with_key seen key)
  unfolding with_key
  room_still = rw length-set room

-- links stand before the marks
marks_apart : (seen : List ℕ) (i u k : ℕ) → i < 4096 → u < 4096 → may_be_marked (with_link seen i u) k ≡ may_be_marked seen k
unfolding may_be_marked
marks_apart seen i u k h l =
    rw (
      get_or-set_other (set seen (4096 + i) (get_or seen u 0)) u (place_of k) (i + 1) 0 (λ (z : place_of k ≡ u). absurd (omega arith)),
      get_or-set_other seen (4096 + i) (place_of k) (get_or seen u 0) 0 (λ (z : place_of k ≡ 4096 + i). absurd (omega arith)),
    )

links_apart : (seen : List ℕ) (key m : ℕ) → m < 8192 → get_or (with_key seen key) m 0 ≡ get_or seen m 0
unfolding with_key
links_apart seen key m h = get_or-set_other seen (place_of key) m _ 0 (λ (z : m ≡ place_of key). absurd (omega arith))

pub seen_start : (t : Tree) (seen : List ℕ) → 16384 ≤ length seen → NoneLinked seen → Seen t 0 seen
seen_start t seen e n = record { room = e; keys = λ j h. absurd (omega arith); linked = linked_start (class_of t) seen n }

module _ {t : Tree} {i : ℕ} {seen : List ℕ} (s : Seen t i seen) {key : ℕ} (e : key ≡ key_at t i) where
  pub key_fits : key < 4194304
  key_fits = rw e (key-small t i)

  -- node i more
  pub seen_on : i < 4096 → Seen t (i + 1) (with_node seen i key)
  unfolding class_of
  seen_on l =
      record {
        room = rw (length-set, length-set) (room_still seen s.room key key_fits);
        keys = λ j h. marks_apart (with_key seen key) i (key % 4096) (key_at t j) l (omega arith) ∙ marked_too j h;
        linked = subst (λ (c : ℕ). Linked (class_of t) (i + 1) (with_link (with_key seen key) i c)) (sym class) (linked_on still wide l (rw (← class) (omega arith)));
      }
    where
      marked_too : (j : ℕ) → j < i + 1 → may_be_marked (with_key seen key) (key_at t j) ≡ true
      marked_too = below_more _ _ (λ j h. met_still seen s.room key key_fits (key_at t j) (s.keys j h)) (rw (← e) (met_now seen s.room key key_fits))

      class : key % 4096 ≡ class_of t i
      class = rw e

      wide : 8192 ≤ length (with_key seen key)
      wide = omega (arith, room_still seen s.room key key_fits)

      still : Linked (class_of t) i (with_key seen key)
      still = linked-same s.linked (omega arith) (links_apart seen key)

  -- a sibling of node i with its name has its key
  key_of : (j : ℕ) → namesake t i j ≡ true → key_at t j ≡ key
  unfolding key_at namesake sibling
  key_of j q =
      ap₂ name_key (eqb-true (parent t j) (parent t i) (and_first (sibling t i j) _ q)) (same-is (name t j) (name t i) (and_second (sibling t i j) _ q)) ∙ sym e

  unlike : may_be_marked seen key ≡ false → (j : ℕ) → j < i → namesake t i j ≡ false
  unlike f j h = by_test (namesake t i j) refl
    where
      by_test : (a : Bool) → namesake t i j ≡ a → a ≡ false
      by_test false q = refl
      by_test true q = untrue (sym f ∙ rw (key_of j q) at (s.keys j h))

  pub not_taken : may_be_marked seen key ≡ false → name_taken t i ≡ false
  unfolding name_taken
  not_taken f = sym (some-done (some_start (namesake t i) i i (omega arith) (unlike f)) (omega arith))

-- nodes of another class have another name
apart : (t : Tree) (i j : ℕ) → eqb (class_of t j) (class_of t i) ≡ false → namesake t i j ≡ false
unfolding class_of key_at namesake sibling
apart t i j f = by_test (namesake t i j) refl
  where
    by_test : (a : Bool) → namesake t i j ≡ a → a ≡ false
    by_test false q = refl
    by_test true q =
        let u = eqb-true (parent t j) (parent t i) (and_first (sibling t i j) _ q) in
        let n = same-is (name t j) (name t i) (and_second (sibling t i j) _ q) in
        untrue (sym f ∙ eq-eqb (class_of t j) (class_of t i) (ap₂ (λ (x : ℕ) (y : List ℕ). name_key x y % 4096) u n))

-- the search has come to node x - 1: no node from x on is a namesake
pub record Searched (t : Tree) (i x : ℕ) : Type 0 where
  pub below : x ≤ i
  pub none_after : (m : ℕ) → x ≤ m → m < i → namesake t i m ≡ false
  pub of_class : 0 < x → class_of t (x - 1) ≡ class_of t i

module _ {t : Tree} {i : ℕ} where
  pub search_start : {seen : List ℕ} → Seen t i seen → class_of t i < 4096 → Searched t i (get_or seen (class_of t i) 0)
  search_start s h =
      let l = s.linked.last (class_of t i) h in
      record { below = l.small; none_after = λ m k n. apart t i m (l.none_after m k n); of_class = λ k. eqb-true _ _ (l.holds k) }

  module _ {x : ℕ} (w : Searched t i x) where
    pub search_on : {seen : List ℕ} → Seen t i seen → 0 < x → namesake t i (x - 1) ≡ false → Searched t i (get_or seen (4096 + (x - 1)) 0)
    search_on {seen} s h e =
        record {
          below = omega (arith, l.small);
          none_after = λ m k n.
              elim (ℕ_discrete m (x - 1)) [
                | yes q ↦ rw q e
                | no z ↦ by_place m k n z (ltb m x) refl
              ];
          of_class = λ k. eqb-true _ _ (l.holds k) ∙ w.of_class h;
        }
      where
        b : x ≤ i
        b = w.below

        l : LastOf (λ m. eqb (class_of t m) (class_of t (x - 1))) (x - 1) (get_or seen (4096 + (x - 1)) 0)
        l = s.linked.before (x - 1) (omega arith)

        by_place : (m : ℕ) → get_or seen (4096 + (x - 1)) 0 ≤ m → m < i → (m ≡ x - 1 → ⊥) → (a : Bool) → ltb m x ≡ a → namesake t i m ≡ false
        by_place m k n z true q = apart t i m (rw (w.of_class h) at (l.none_after m k (omega (arith, z, ltb-true m x q))))
        by_place m k n z false q = w.none_after m (ltb-false m x q) n

    pub search_found : 0 < x → namesake t i (x - 1) ≡ true → name_taken t i ≡ true
    unfolding name_taken
    search_found h e = let b = w.below in some_by (namesake t i) i 0 (x - 1) e (omega arith) (omega arith)

    pub search_end : x ≤ 0 → name_taken t i ≡ false
    unfolding name_taken
    search_end h = sym (some-done (some_start (namesake t i) i i (omega arith) (λ m n. w.none_after m (omega arith) n)) (omega arith))
