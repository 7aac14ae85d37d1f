-- The elements of one type by the tables of their keys: what is gathered, and numbers looked up.
use Prim.Native.Nat.{ℕ, ◌+◌, ◌<◌, ◌≤◌}
use mathlib.Core.Path.{◌≡◌, refl, sym, ◌∙◌}
use mathlib.Core.Bool.{Bool, true, false, ◌&&◌}
use mathlib.Core.List.{List}
use native.Mathlib.Omega.{arith}
use native.Mathlib.Decide.{dec_lt}
use lib.Dec.{eqb, leb, ltb}
use borrow.Author.Tests.{lt-ltb, ltb-true, leb-true}
use Rattle.model.specs.Lists.{◌⊃◌, some_from}
use Rattle.model.specs.Image.{Tree, tree_of, node_count, parent}
use Rattle.model.specs.Given.{Sound}
use Rattle.model.specs.Containment.{validated_as, section_of, found, Elements}
use Rattle.model.specs.Values.{type_lawful, value_lawful, range_of}
use Rattle.model.specs.Elements.{element_type_of, first_element, last_element, in_range, conforming_section, face_section, has_face, face_of}
use Rattle.model.proofs.Logic.{untrue, and_first, and_second}
use Rattle.model.proofs.Walks.{some_at, some_by, some_same}
use Rattle.ranges.specs.declared.Interval.{Interval}
use Rattle.ranges.specs.Tables.{key, holds, in_ranges, is_within, Covered, meets_section, Gathered}
use Rattle.ranges.proofs.Keys.{key_meets}
use Rattle.section_data.specs.Ranges.{is_wanted, is_ranged, first_key, last_key, has_of, of_type, TableOf}
use Rattle.section_data.proofs.RangeLaws.{ranged, ranged-few}

-- a section of a zone, of type e
section-is : (t : Tree) (e : ℕ) → 0 < e → (z s : ℕ) → (conforming_section t z s && eqb (element_type_of t s) e) ≡ (eqb (parent t s) z && is_ranged t e s)
unfolding conforming_section section_of is_ranged is_wanted ◌⊃◌
section-is t e h z s =
    rw (lt-ltb 0 e h)
    (split (eqb (parent t s) z) (validated_as t Elements s) (type_lawful t s) (value_lawful t s) (eqb (element_type_of t s) e) (found t (range_of t s)))
  where
    split : (p v a c n f : Bool) → (p && v && a && c && f && n) ≡ (p && (v && (a && c && n) && f))
    split false v a c n f = refl
    split true false a c n f = refl
    split true true false c n f = refl
    split true true true false n f = refl
    split true true true true false false = refl
    split true true true true false true = refl
    split true true true true true false = refl
    split true true true true true true = refl

module _ {b : List ℕ} (g : Sound b) (e : ℕ) (some : 0 < e) where
  -- it has the elements that its keys hold
  key_has : (z f : ℕ) → f < 4294967296 → (s : ℕ)
      → meets_section (is_ranged (tree_of b) e) (first_key (tree_of b)) (last_key (tree_of b)) (key z f) (key z f) s ≡ has_of (tree_of b) e z f s
  unfolding meets_section has_of in_range first_key last_key
  key_has z f h s = rw (section-is (tree_of b) e some z s) (by_test (is_ranged (tree_of b) e s) refl)
    where
      turn : (p r : Bool) → (p && r) ≡ (p && true && r)
      turn true r = refl
      turn false r = refl

      shut : (p : Bool) → false ≡ (p && false && (leb (first_element (tree_of b) s) f && leb f (last_element (tree_of b) s)))
      shut true = refl
      shut false = refl

      by_test : (c : Bool) → is_ranged (tree_of b) e s ≡ c
          → (c && (leb (key (parent (tree_of b) s) (first_element (tree_of b) s)) (key z f)
          && leb (key z f) (key (parent (tree_of b) s) (last_element (tree_of b) s))))
          ≡ (eqb (parent (tree_of b) s) z && c && (leb (first_element (tree_of b) s) f && leb f (last_element (tree_of b) s)))
      by_test true q =
          let t = tree_of b in
          let m = (ranged g e s q).most in
          rw (key_meets (parent t s) z (first_element t s) (last_element t s) f f (omega arith) h)
          (turn (eqb (parent t s) z) (leb (first_element t s) f && leb f (last_element t s)))
      by_test false q = shut (eqb (parent (tree_of b) s) z)

  -- none has a greater number than 2,147,483,647
  too_great : (z f : ℕ) → 2147483647 < f → of_type (tree_of b) e z f ≡ false
  unfolding of_type has_of in_range
  too_great z f h = by_test (of_type (tree_of b) e z f) refl
    where
      by_test : (c : Bool) → some_from (has_of (tree_of b) e z f) (tree_of b).count 0 ≡ c → c ≡ false
      by_test true q =
          let t = tree_of b in
          let w = some_at (has_of t e z f) t.count 0 q in
          let s = w.at in
          let o = conforming_section t z s && eqb (element_type_of t s) e in
          let p = sym (section-is t e some z s) ∙ and_first o _ w.holds in
          let m = (ranged g e s (and_second (eqb (parent t s) z) _ p)).most in
          let l = leb-true f (last_element t s) (and_second (leb (first_element t s) f) _ (and_second o _ w.holds)) in
          absurd (omega arith)
      by_test false q = refl

  pub table_by : {firsts reach : List ℕ} {n i : ℕ} → Gathered (is_ranged (tree_of b) e) (first_key (tree_of b)) (last_key (tree_of b)) firsts reach n i
      → i ≡ node_count b → TableOf (of_type (tree_of b) e) firsts reach n
  unfolding of_type tree_of
  table_by {firsts} {reach} {n} {i} l q =
      let k = rw q at l.few in
      let m = ranged-few g e in
      record {
        few = omega arith;
        ordered = l.ordered;
        in_ranges_lem = λ z f h. l.meets (key z f) (key z f)
            ∙ rw q (some_same (meets_section (is_ranged (tree_of b) e) (first_key (tree_of b)) (last_key (tree_of b)) (key z f) (key z f)) (has_of (tree_of b) e z f)
            (node_count b) 0
            (λ s x y. key_has z f h s));
        small = too_great;
      }

-- a face has no greater number
pub face-small : {b : List ℕ} → Sound b → (z f : ℕ) → face_of (tree_of b) z f ≡ true → f ≤ 2147483647
unfolding face_of has_face face_section of_type has_of
face-small g z f e =
    elim (dec_lt 2147483647 f) [
      | yes h ↦ untrue (sym (too_great g 22 (omega arith) z f h) ∙ e)
      | no h ↦ omega arith
    ]

-- numbers by the tables: those of an interval that ranges cover, of an entry, and a number looked up
module _ {p : ℕ → ℕ → Bool} {firsts reach : List ℕ} {n : ℕ} (g : TableOf p firsts reach n) (z : ℕ) where
  pub covered-is : {r : Interval} → Covered firsts reach n z r → (f : ℕ) → is_within r f ≡ true → p z f ≡ true
  unfolding is_within
  covered-is {r} c f e =
      let h = ltb-true f (r.low + r.size) (and_second (leb r.low f) _ e) in
      sym (g.in_ranges_lem z f (omega (arith, c.small))) ∙ c.covered f e

  -- an entry holds the key x of f
  pub held-is : {f x : ℕ} (j : ℕ) → f < 4294967296 → x ≡ key z f → (ltb j n && holds firsts reach x j) ≡ true → p z f ≡ true
  held-is {f} {x} j h q e =
      let l = ltb-true j n (and_first _ (holds firsts reach x j) e) in
      sym (g.in_ranges_lem z f h) ∙ rw (← q) (some_by (holds firsts reach x) n 0 j (and_second (ltb j n) _ e) (omega arith) (omega arith))

  -- f is in no range
  pub missed_is : {f : ℕ} → f < 4294967296 → in_ranges firsts reach n (key z f) ≡ false → p z f ≡ false
  missed_is {f} h e = sym (g.in_ranges_lem z f h) ∙ e
