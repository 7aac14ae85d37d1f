-- Where the order holds, a node's name is taken if the node before it in the order is its namesake.
use Prim.Native.Nat.{ℕ, zero, suc, ◌+◌, ◌-◌, ◌<◌}
use mathlib.Core.Path.{◌≡◌, refl, sym, ap₂, ◌∙◌}
use mathlib.Core.Bool.{Bool, true, false, cond}
use mathlib.Core.List.{List, [], ◌∷◌}
use native.Mathlib.Omega.{arith}
use native.Mathlib.Decide.{ℕ_discrete}
use lib.Dec.{eqb, ltb}
use lib.ListN.{get_or}
use borrow.Author.Tests.{eq-eqb, ne_eqb, eqb-true, eqb-false, ltb-true, lt-ltb}
use Rattle.model.specs.Bytes.{same}
use Rattle.model.specs.Image.{Tree, name, parent}
use Rattle.model.specs.Records.{sibling, namesake, name_taken}
use Rattle.model.proofs.Logic.{untrue, and_first, and_second, same-is}
use Rattle.model.proofs.Walks.{every_at, some_by, some_at}
use Rattle.name_order.specs.Order.{precedes, node_at, place_of, right_at, ordered, taken_beside}
use Rattle.name_order.proofs.Order.{lower-same, lower-on, between_equal}

-- the parent and the name of a node
abbrev key_of : Tree → ℕ → List ℕ
key_of t i = parent t i ∷ name t i

same_itself : (s : List ℕ) → same s s ≡ true
unfolding same
same_itself [] = refl
same_itself (x ∷ s) = rw (eq-eqb x x refl) (same_itself s)

module _ (t : Tree) where
  key-same : (i j : ℕ) → namesake t i j ≡ true → key_of t j ≡ key_of t i
  unfolding namesake sibling
  key-same i j e =
      ap₂ ◌∷◌ (eqb-true (parent t j) (parent t i) (and_first (sibling t i j) _ e))
      (same-is (name t j) (name t i) (and_second (sibling t i j) _ e))

  same_key : (i j : ℕ) → key_of t j ≡ key_of t i → namesake t i j ≡ true
  unfolding namesake sibling
  same_key i j e =
      let p : parent t j ≡ parent t i = cc in
      let n : name t j ≡ name t i = cc in
      rw (eq-eqb (parent t j) (parent t i) p, n) (same_itself (name t i))

  -- of two namesakes the lower number stands before the other
  namesakes : (i j : ℕ) → namesake t i j ≡ true → precedes t j i ≡ ltb j i
  unfolding precedes
  namesakes i j e = rw (key-same i j e) (lower-same (ltb j i) (key_of t i))

  precedes-on : (j m i : ℕ) → precedes t j m ≡ true → precedes t m i ≡ true → precedes t j i ≡ true
  unfolding precedes
  precedes-on j m i e f = lower-on j m i (key_of t j) (key_of t m) (key_of t i) e f

  -- a node between two namesakes is one
  between : (i j m : ℕ) → namesake t i j ≡ true → precedes t j m ≡ true → precedes t m i ≡ true → (namesake t i m ≡ true) × (m < i)
  unfolding precedes
  between i j m e f g =
      let k = key-same i j e in
      let w = between_equal j m i (key_of t i) (key_of t m) (rw k at f) g in
      (same_key i m (sym w.0), w.1)

both_ways : (a b : Bool) → (a ≡ true → b ≡ true) → (b ≡ true → a ≡ true) → a ≡ b
both_ways true b f g = sym (f refl)
both_ways false true f g = g refl
both_ways false false f g = refl

module _ (t : Tree) (o : List ℕ) (n : ℕ) where
  node-small : (k : ℕ) → 0 < n → node_at o n k < n
  unfolding node_at
  node-small k h = by_test (ltb (get_or o k 0) n) refl
    where
      by_test : (a : Bool) → ltb (get_or o k 0) n ≡ a → cond a (get_or o k 0) 0 < n
      by_test true e = ltb-true (get_or o k 0) n e
      by_test false e = h

  module _ (ok : ordered t o n ≡ true) where
    right : (i : ℕ) → i < n → right_at t o n i ≡ true
    unfolding ordered
    right i h = every_at (right_at t o n) n 0 i ok (omega arith) (omega arith)

    there : (i : ℕ) → i < n → node_at o n (place_of o n i) ≡ i
    unfolding right_at
    there i h = eqb-true _ _ (and_first (eqb (node_at o n (place_of o n i)) i) _ (right i h))

    next : (k : ℕ) → k + 1 < n → precedes t (node_at o n k) (node_at o n (k + 1)) ≡ true
    unfolding right_at
    next k h =
        let e : k + 1 - 1 ≡ k = omega arith in
        let f = ne_eqb (k + 1) 0 (λ (z : k + 1 ≡ 0). absurd (omega arith)) in
        rw (e, f) at (and_second (eqb (node_at o n (place_of o n (k + 1))) (k + 1)) _ (right (k + 1) h))

    later : (k m : ℕ) → k + 1 + m < n → precedes t (node_at o n k) (node_at o n (k + 1 + m)) ≡ true
    later k zero h = let e : k + 1 + 0 ≡ k + 1 = omega arith in rw e (next k (omega arith))
    later k (suc m) h =
        let e : k + 1 + suc m ≡ k + 1 + m + 1 = omega arith in
        rw e (precedes-on t (node_at o n k) (node_at o n (k + 1 + m)) (node_at o n (k + 1 + m + 1)) (later k m (omega arith)) (next (k + 1 + m) (omega arith)))

    rises : (k l : ℕ) → k < l → l < n → precedes t (node_at o n k) (node_at o n l) ≡ true
    rises k l h b = let e : k + 1 + (l - (k + 1)) ≡ l = omega arith in rw e at (later k (l - (k + 1)) (omega arith))

    module _ (i : ℕ) (h : i < n) where
      -- the node before it
      abbrev beside : ℕ
      beside = node_at o n (place_of o n i - 1)

      beside_first : 0 < place_of o n i → precedes t beside i ≡ true
      beside_first p =
          let e = there i h in
          let q : place_of o n i - 1 + 1 ≡ place_of o n i = omega arith in
          rw (q, e) at (next (place_of o n i - 1) (omega (arith, node-small (8192 + i) (omega arith))))

      from_beside : taken_beside t o n i ≡ true → name_taken t i ≡ true
      unfolding taken_beside name_taken
      from_beside e = by_test (eqb (place_of o n i) 0) refl e
        where
          by_test : (a : Bool) → eqb (place_of o n i) 0 ≡ a → cond a false (namesake t i beside) ≡ true → name_taken t i ≡ true
          by_test true g f = untrue f
          by_test false g f =
              let l = ltb-true beside i (sym (namesakes t i beside f) ∙ beside_first (omega (arith, eqb-false (place_of o n i) 0 g))) in
              some_by (namesake t i) i 0 beside f (omega arith) (omega arith)

      -- an earlier namesake stands before it, and the node beside it is that one or between the two
      module _ (j : ℕ) (l : j < i) (e : namesake t i j ≡ true) where
        apart : place_of o n i ≡ place_of o n j → ⊥
        apart q = let z : i ≡ j = sym (there i h) ∙ rw q (there j (omega arith)) in omega arith

        not_after : place_of o n i < place_of o n j → ⊥
        not_after q =
            let r = rises (place_of o n i) (place_of o n j) q (node-small (8192 + j) (omega arith)) in
            let w = between t j j i (same_key t j j refl) (namesakes t i j e ∙ lt-ltb j i l) (rw (there i h, there j (omega arith)) at r) in
            omega (arith, w.1)

        lower-place : place_of o n j < place_of o n i
        lower-place = omega (arith, apart, not_after)

        beside_is : namesake t i beside ≡ true
        beside_is =
            let p = lower-place in
            elim (ℕ_discrete (place_of o n j) (place_of o n i - 1)) [
              | yes q ↦ let z : beside ≡ j = rw (← q) (there j (omega arith)) in rw z e
              | no q ↦
                  let b = rises (place_of o n j) (place_of o n i - 1) (omega (arith, q)) (omega (arith, node-small (8192 + i) (omega arith))) in
                  (between t i j beside e (rw (there j (omega arith)) at b) (beside_first (omega arith))).0
            ]

        to_beside : taken_beside t o n i ≡ true
        unfolding taken_beside
        to_beside = let p = lower-place in rw (ne_eqb (place_of o n i) 0 (λ (z : place_of o n i ≡ 0). absurd (omega arith))) beside_is

      pub beside_taken : name_taken t i ≡ taken_beside t o n i
      unfolding name_taken
      beside_taken = both_ways _ _ (λ e. let s = some_at (namesake t i) i 0 e in to_beside s.at (omega (arith, s.to)) s.holds) from_beside
