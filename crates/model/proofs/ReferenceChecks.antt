-- Rules 34 to 37 at an entry of a connectivity. They exclude one another: zero is no element number, since ranges start from 1 on. A face is an element, so
-- a face reference that breaks none of them is a face. What the check tells of an entry, by the tests made of it.
use Prim.Native.Nat.{ℕ, suc, ◌+◌, ◌≤◌}
use mathlib.Core.Path.{◌≡◌, refl, sym, ◌∙◌}
use mathlib.Core.Bool.{Bool, true, false, cond, ◌&&◌}
use mathlib.Core.List.{List, [], ◌∷◌}
use native.Mathlib.Omega.{arith}
use lib.Dec.{eqb, leb}
use borrow.Author.Tests.{eqb-true, leb-true, ltb-false}
use Rattle.model.specs.Lists.{◌⊃◌, row}
use Rattle.model.specs.Bytes.{text}
use Rattle.model.specs.Rules.{Rule, ◌unless◌, rejected, rejection_at, passed, check, ◌at_entry◌}
use Rattle.model.specs.Image.{Tree, parent, number}
use Rattle.model.specs.Containment.{role, Elements, IndexRange, section_of, found}
use Rattle.model.specs.Values.{type_lawful, value_lawful, range_value, index_range_value, range_of}
use Rattle.model.specs.Elements.{NFACE, element_type_of, first_element, in_range, conforming_section, has_element, element_of, face_section, has_face, face_of}
use Rattle.model.specs.Elements.{face_number, is_node, not_zero, is_element, is_face, reference_rules, reference_check_at}
use Rattle.model.proofs.Logic.{untrue, and_first, and_second, and_both}
use Rattle.model.proofs.Walks.{some_at, some_by}
use Rattle.model.proofs.Conforming.{section-is, conforming-value, conforming-parent, conforming-role}

-- a section that conforms is one of the zone, and has a range that conforms
pub conforms_section : (t : Tree) (z s : ℕ) → conforming_section t z s ≡ true → section_of t z s ≡ true
unfolding conforming_section
conforms_section t z s e = and_first (section_of t z s) _ (and_first _ _ (and_first _ (found t (range_of t s)) e))

conforms_range : (t : Tree) (z s : ℕ) → conforming_section t z s ≡ true → found t (range_of t s) ≡ true
unfolding conforming_section
conforms_range t z s e = and_second (section_of t z s && type_lawful t s && value_lawful t s) _ e

module _ (t : Tree) (z : ℕ) where
  -- 25: the range of a section that conforms starts from 1 on
  from_one : (s : ℕ) → conforming_section t z s ≡ true → 1 ≤ first_element t s
  unfolding value_lawful index_range_value range_value first_element row range_of
  from_one s e =
      let f = number t (range_of t s) 0 in
      let l = number t (range_of t s) 1 in
      let i = section-is t z s (conforms_section t z s e) in
      let r = conforms_range t z s e in
      let v =
      rw (conforming-parent t s IndexRange (text "ElementRange") r, eqb-true (role t s) Elements i.elements) at
      (rw (conforming-role t s IndexRange (text "ElementRange") r) at (conforming-value t s IndexRange (text "ElementRange") r)) in
      leb-true 1 f (and_first (leb 1 f) _ (and_first (leb 1 f && leb f l) _ v))

  -- so zero is no element of the zone
  zero_none : (c : Bool) → element_of t z 0 ≡ c → c ≡ false
  unfolding element_of has_element in_range
  zero_none false e = refl
  zero_none true e =
      let w = some_at (has_element t z 0) t.count 0 e in
      let s = w.at in
      let f = leb-true (first_element t s) 0 (and_first (leb (first_element t s) 0) _ (and_second (conforming_section t z s) _ w.holds)) in
      absurd (omega (arith, from_one s (and_first (conforming_section t z s) _ w.holds)))

  pub zero_no_element : element_of t z 0 ≡ false
  zero_no_element = zero_none (element_of t z 0) refl

  -- a face is an element
  pub face-element : (f : ℕ) → face_of t z f ≡ true → element_of t z f ≡ true
  unfolding face_of element_of has_face has_element face_section
  face-element f e =
      let w = some_at (has_face t z f) t.count 0 e in
      let s = w.at in
      let g = and_first (face_section t z s) (in_range t s f) w.holds in
      let r = and_second (face_section t z s) (in_range t s f) w.holds in
      some_by (has_element t z f) t.count 0 s (and_both (conforming_section t z s) (in_range t s f) (and_first (conforming_section t z s) _ g) r) (omega arith) w.to

-- a reference zero is no element
zero_unknown : (t : Tree) (s k : ℕ) → not_zero t s k ≡ false → is_element t s k ≡ false
unfolding not_zero is_element
zero_unknown t s k e =
    let z : face_number t s k ≡ 0 = let h = ltb-false 0 (face_number t s k) e in omega arith in
    rw z (zero_no_element t (parent t s))

-- how many rules of a list are broken
abbrev pub broken : List Rule → ℕ
broken [] = 0
broken ((rule unless holds) ∷ rest) = cond holds 0 1 + broken rest

-- at an entry no two of rules 34 to 37 are broken
pub one_broken : (t : Tree) (s k : ℕ) → broken (reference_rules t s k) ≤ 1
unfolding reference_rules ◌⊃◌
one_broken t s k =
    by_tests (eqb (element_type_of t s) NFACE) refl (is_node t s k) refl (not_zero t s k) refl (is_element t s k) refl (is_face t s k) refl
  where
    by_tests : (cell : Bool) → eqb (element_type_of t s) NFACE ≡ cell → (node : Bool) → is_node t s k ≡ node → (some : Bool) → not_zero t s k ≡ some
        → (element : Bool) → is_element t s k ≡ element → (face : Bool) → is_face t s k ≡ face → broken (reference_rules t s k) ≤ 1
    by_tests false c true n some z element e face f = rw (c, n) (omega arith)
    by_tests false c false n some z element e face f = rw (c, n) (omega arith)
    by_tests true c node n false z true e face f = untrue (sym (zero_unknown t s k z) ∙ e)
    by_tests true c node n false z false e face f = rw (c, z, e) (omega arith)
    by_tests true c node n true z false e face f = rw (c, z, e) (omega arith)
    by_tests true c node n true z true e true f = rw (c, z, e, f) (omega arith)
    by_tests true c node n true z true e false f = rw (c, z, e, f) (omega arith)

-- the entry refers to a node
module _ (t : Tree) (s k : ℕ) (n : eqb (element_type_of t s) NFACE ≡ false) where
  pub node-passes : is_node t s k ≡ true → reference_check_at t s k ≡ passed
  unfolding reference_check_at reference_rules check ◌⊃◌ ◌at_entry◌
  node-passes e = rw (n, e)

  pub node-fails : is_node t s k ≡ false → reference_check_at t s k ≡ rejected (rejection_at 34 s (suc k))
  unfolding reference_check_at reference_rules check ◌⊃◌ ◌at_entry◌
  node-fails e = rw (n, e)

-- the entry refers to a face
module _ (t : Tree) (s k : ℕ) where
  face_known : is_face t s k ≡ true → is_element t s k ≡ true
  unfolding is_face is_element
  face_known e = face-element t (parent t s) (face_number t s k) e

  -- a face is no zero
  face-not_zero : is_face t s k ≡ true → not_zero t s k ≡ true
  face-not_zero e = by_test (not_zero t s k) refl
    where
      by_test : (c : Bool) → not_zero t s k ≡ c → c ≡ true
      by_test true h = refl
      by_test false h = untrue (sym (zero_unknown t s k h) ∙ face_known e)

  module _ (n : element_type_of t s ≡ NFACE) where
    -- 35, 36, 37
    pub rules_face : (eqb (element_type_of t s) NFACE ⊃ not_zero t s k) ≡ true → (eqb (element_type_of t s) NFACE ⊃ not_zero t s k ⊃ is_element t s k) ≡ true
        → (eqb (element_type_of t s) NFACE ⊃ is_element t s k ⊃ is_face t s k) ≡ true → is_face t s k ≡ true
    unfolding ◌⊃◌
    rules_face p q r =
        let z : not_zero t s k ≡ true = rw n at p in
        let e : is_element t s k ≡ true = rw (n, z) at q in
        rw (n, e) at r

    pub face-passes : is_face t s k ≡ true → reference_check_at t s k ≡ passed
    unfolding reference_check_at reference_rules check ◌⊃◌ ◌at_entry◌
    face-passes e = rw (n, face-not_zero e, face_known e, e)

    pub zero_fails : not_zero t s k ≡ false → reference_check_at t s k ≡ rejected (rejection_at 35 s (suc k))
    unfolding reference_check_at reference_rules check ◌⊃◌ ◌at_entry◌
    zero_fails e = rw (n, e)

    module _ (h : not_zero t s k ≡ true) where
      pub element-fails : is_element t s k ≡ false → reference_check_at t s k ≡ rejected (rejection_at 36 s (suc k))
      unfolding reference_check_at reference_rules check ◌⊃◌ ◌at_entry◌
      element-fails e = rw (n, h, e)

      pub face-fails : is_element t s k ≡ true → is_face t s k ≡ false → reference_check_at t s k ≡ rejected (rejection_at 37 s (suc k))
      unfolding reference_check_at reference_rules check ◌⊃◌ ◌at_entry◌
      face-fails e f = rw (n, h, e, f)
