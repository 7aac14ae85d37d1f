-- What is told of an element's span, and what each of the three calls answers by it: 42 or the corner, 46 or all corners, the type.
use Prim.Native.Nat.{ℕ, suc, ◌+◌, ◌-◌, ◌≤◌, ◌<◌}
use mathlib.Core.Path.{◌≡◌, refl, ap, ◌∙◌}
use mathlib.Core.Bool.{Bool, true, false, ◌&&◌, and-false}
use mathlib.Core.List.{List, [], ◌∷◌}
use native.Mathlib.Omega.{arith}
use lib.Dec.{eqb, leb}
use lib.ListN.{length}
use lib.IntN.{ℤ}
use borrow.Author.Tests.{eq-eqb, ne_eqb, leb-true, le-leb, lt-leb}
use Rattle.std.specs.Prelude.{Option, Some, ok_or}
use Rattle.model.specs.declared.Section.{Section}
use Rattle.model.specs.declared.Rejection.{Rejection}
use Rattle.model.specs.Lists.{◌⊃◌, over}
use Rattle.model.specs.Bytes.{signed}
use Rattle.model.specs.Rules.{rejected, rejection, answer, Check, Rule, ◌unless◌, check, ◌then◌, ◌gives◌, leaves}
use Rattle.model.specs.Answers.{tells}
use Rattle.model.specs.Elements.{MIXED, start_of, own_type, corner_place, type_fits}
use Rattle.model.specs.Corner.{in_entry, number_at, layout_in, entry_start, entry_size, readable, is_corner, corner_check, corner_number, corner_answer}
use Rattle.model.specs.ElementCorners.{element_corners_check, element_corners_answer, element_corners_memory}
use Rattle.model.specs.OwnType.{own_type_check, own_type_answer}
use Rattle.model.proofs.Logic.{between}
use Rattle.model.proofs.Layouts.{corners_fill, corner-next, corner-after}
use Rattle.model.proofs.Written.{values_shift}
use Rattle.corners.specs.declared.spans.Span.{Span}
use Rattle.corners.specs.Spans.{provided, corners_of, span_of, span_answer, corner_in, element_values, corners_in, corners_in_memory}

-- an element below the range or above it, and one in it
module _ (b : List ℕ) (e : Section) (element : ℕ) where
  pub below-range : element < e.first → rejected (rejection 41 0) ≡ span_answer b e element
  unfolding span_answer in_entry check ◌gives◌ ◌then◌
  below-range h = rw (lt-leb _ _ h)

  pub above-range : e.last < element → rejected (rejection 41 0) ≡ span_answer b e element
  unfolding span_answer in_entry check ◌gives◌ ◌then◌
  above-range h = rw (lt-leb _ _ h, and-false)

  pub in_range_lem : e.first ≤ element → element ≤ e.last → {s : Option Span} → s ≡ span_of b e (element - e.first)
      → tells (λ x. x) (ok_or s (rejection 43 0)) ≡ span_answer b e element
  unfolding span_answer span_of in_entry check ◌gives◌ ◌then◌
  in_range_lem l h q = rw (q, between _ _ _ l h) (by_test (readable b e (element - e.first)) _)
    where
      by_test : (t : Bool) (s : Span) → tells (λ x. x) (ok_or (provided t (Some s)) (rejection 43 0)) ≡ (check 0 (43 unless t ∷ []) gives s)
      by_test true s = refl
      by_test false s = refl

-- checks that begin with 41 and 43
refused_first : {r : Rejection} (s : Span) (t u : Bool) (rest : List Rule)
    → rejected r ≡ (check 0 (41 unless t ∷ 43 unless u ∷ []) gives s) → check 0 (41 unless t ∷ 43 unless u ∷ rest) ≡ rejected r
unfolding check ◌gives◌ ◌then◌
refused_first {r} s false u rest q = let p : r ≡ rejection 41 0 = cc in rw p
refused_first {r} s true false rest q = let p : r ≡ rejection 43 0 = cc in rw p
refused_first s true true rest q = let z : ◌≡◌ {A = ℕ} 0 1 = cc in absurd (omega arith)

both_passed : {s x : Span} (t u : Bool) → answer s ≡ (check 0 (41 unless t ∷ 43 unless u ∷ []) gives x) → (t ≡ true) × (u ≡ true) × (x ≡ s)
unfolding check ◌gives◌ ◌then◌
both_passed false u q = let z : ◌≡◌ {A = ℕ} 0 1 = cc in absurd (omega arith)
both_passed true false q = let z : ◌≡◌ {A = ℕ} 0 1 = cc in absurd (omega arith)
both_passed true true q = (refl, refl, cc)

module _ (b : List ℕ) (e : Section) (element : ℕ) where
  refused : {r : Rejection} (rest : List Rule) → rejected r ≡ span_answer b e element
      → check 0 (41 unless in_entry e element ∷ 43 unless readable b e (element - e.first) ∷ rest) ≡ rejected r
  unfolding span_answer
  refused rest q = refused_first _ _ _ rest q

  type_fits_lem : (k : ℕ) → readable b e k ≡ true → (eqb e.element_type MIXED ⊃ type_fits (layout_in b e) k) ≡ true
  unfolding readable
  type_fits_lem k r = by_test (eqb e.element_type MIXED ⊃ type_fits (layout_in b e) k) refl
    where
      by_test : (t : Bool) → (eqb e.element_type MIXED ⊃ type_fits (layout_in b e) k) ≡ t → t ≡ true
      by_test true p = refl
      by_test false p = rw (p, and-false) at r

  -- what a span that is told says of its element
  module _ {s : Span} (q : answer s ≡ span_answer b e element) where
    found : (in_entry e element ≡ true) × (readable b e (element - e.first) ≡ true) × (corners_of b e (element - e.first) ≡ s)
    unfolding span_answer
    found = both_passed _ _ q

    place_is : corner_place (layout_in b e) (element - e.first) 1 ≡ s.start
    place_is = ap (λ x. x.start) found.2

    end_is : entry_start b e (suc (element - e.first)) ≡ s.end
    end_is = ap (λ x. x.end) found.2

    size_is : s.start < s.end → entry_size b e (element - e.first) ≡ s.end - s.start
    unfolding entry_size entry_start layout_in
    size_is h =
        let k = element - e.first in
        let l = layout_in b e in
        let f = corners_fill l k (type_fits_lem k found.1) (omega (arith, corner-after l k, place_is, end_is)) in
        omega (arith, f, place_is, end_is)

    number_is : (c p : ℕ) → 1 ≤ c → s.start + (c - 1) ≡ p
        → signed e.connectivity_width (number_at b e.connectivity_at e.connectivity_width p) ≡ corner_number b e (element - e.first) c
    unfolding corner_number
    number_is c p h f = rw (corner-next (layout_in b e) (element - e.first) c h, place_is, f)

-- a value that counts only where a first test passes
gives_same : {A : Type 0} (rule : ℕ) (t u : Bool) (x y : A) → (t ≡ true → x ≡ y)
    → (check 0 (rule unless (t && u) ∷ []) gives x) ≡ (check 0 (rule unless (t && u) ∷ []) gives y)
unfolding check ◌gives◌ ◌then◌
gives_same rule true u x y f = rw (f refl)
gives_same rule false u x y f = refl

-- the corner reader
module _ (b : List ℕ) (e : Section) (element corner : ℕ) where
  pub corner_refused : {r : Rejection} → rejected r ≡ span_answer b e element → corner_answer b e element corner ≡ rejected r
  unfolding corner_answer corner_check ◌gives◌ ◌then◌
  corner_refused q = rw (refused b e element _ q)

  pub corner-is : {s : Span} → answer s ≡ span_answer b e element → s.start < s.end
      → corner_in b e s.start s.end corner ≡ corner_answer b e element corner
  unfolding corner_answer corner_check check corner_in is_corner
  corner-is q h =
      let f = found b e element q in
      rw (f.0, f.1, size_is b e element q h)
      (gives_same 42 (leb 1 corner) _ _ _ (λ c. number_is b e element q corner _ (leb-true 1 corner c) refl))

-- 46, or all corners in front
module _ (b : List ℕ) (e : Section) (start end : ℕ) (out : List ℤ) where
  pub too_short : length out < end - start → (rejected (rejection 46 0) ≡ corners_in start end (length out)) × (out ≡ corners_in_memory b e start end out)
  unfolding corners_in corners_in_memory check ◌gives◌ ◌then◌ leaves
  too_short h = (rw (lt-leb _ _ h), rw (lt-leb _ _ h))

  pub long_enough : end - start ≤ length out → (answer (end - start) ≡ corners_in start end (length out))
      × (over out (element_values b e start (end - start)) ≡ corners_in_memory b e start end out)
  unfolding corners_in corners_in_memory check ◌gives◌ ◌then◌ leaves
  long_enough h = (rw (le-leb _ _ h), rw (le-leb _ _ h))

leaves-gives : {A B : Type 0} (c : Check) (a : A) (out new : List B) → leaves (c gives a) out new ≡ leaves c out new
unfolding leaves ◌gives◌ ◌then◌
leaves-gives (rejected r) a out new = refl
leaves-gives (answer x) a out new = refl

-- all corners of an element
module _ (b : List ℕ) (e : Section) (element : ℕ) (out : List ℤ) where
  pub element_refused : {r : Rejection} → rejected r ≡ span_answer b e element
      → (element_corners_answer b e element (length out) ≡ rejected r) × (out ≡ element_corners_memory b e element out)
  unfolding element_corners_answer element_corners_memory element_corners_check ◌gives◌ ◌then◌ leaves
  element_refused q = (rw (refused b e element _ q), rw (refused b e element _ q))

  module _ {s : Span} (q : answer s ≡ span_answer b e element) (h : s.start < s.end) where
    check-is : element_corners_check b e element (length out) ≡ check 0 (46 unless leb (s.end - s.start) (length out) ∷ [])
    unfolding element_corners_check check
    check-is = let f = found b e element q in rw (f.0, f.1, size_is b e element q h)

    pub corners_are : (corners_in s.start s.end (length out) ≡ element_corners_answer b e element (length out))
        × (corners_in_memory b e s.start s.end out ≡ element_corners_memory b e element out)
    unfolding corners_in corners_in_memory element_corners_answer element_corners_memory
    corners_are =
        let n = s.end - s.start in
        let z = size_is b e element q h in (
          rw (check-is, z),
          rw (check-is, z)
              (leaves-gives _ n out _
              ∙ ap (λ v. leaves (check 0 (46 unless leb n (length out) ∷ [])) out (over out v))
              (values_shift _ (corner_number b e (element - e.first)) n 0 1 (λ m l. number_is b e element q (1 + m) _ (omega arith) (omega arith)))),
        )

-- an element's own type: in a MIXED section the number in front of its corners
module _ (b : List ℕ) (e : Section) (element : ℕ) where
  pub type_refused : {r : Rejection} → rejected r ≡ span_answer b e element → own_type_answer b e element ≡ rejected r
  unfolding own_type_answer own_type_check ◌gives◌ ◌then◌
  type_refused q = rw (refused b e element _ q)

  module _ {s : Span} (q : answer s ≡ span_answer b e element) where
    pub type-place : e.element_type ≡ MIXED → start_of (layout_in b e) (element - e.first) + 1 ≡ s.start
    unfolding corner_place layout_in
    type-place m = rw (eq-eqb _ _ m) at (place_is b e element q)

    pub type-mixed : e.element_type ≡ MIXED
        → answer (number_at b e.connectivity_at e.connectivity_width (s.start - 1)) ≡ own_type_answer b e element
    unfolding own_type_answer own_type_check check ◌gives◌ ◌then◌ own_type layout_in
    type-mixed m =
        let f = found b e element q in
        let p : s.start - 1 ≡ start_of (layout_in b e) (element - e.first) = omega (arith, type-place m) in
        rw (f.0, f.1, eq-eqb _ _ m, p)

    pub type_plain : (e.element_type ≡ MIXED → ⊥) → answer e.element_type ≡ own_type_answer b e element
    unfolding own_type_answer own_type_check check ◌gives◌ ◌then◌ own_type layout_in
    type_plain n = let f = found b e element q in rw (f.0, f.1, ne_eqb _ _ n)
