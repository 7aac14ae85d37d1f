-- The rules of a section's entries against rows of the image's bytes: the first number of the row that fails is the first entry that does.
use Prim.Native.Nat.{ℕ, suc, ◌+◌, ◌<◌}
use mathlib.Core.Path.{◌≡◌, refl, sym, ◌∙◌}
use mathlib.Core.Bool.{Bool, true, false, cond}
use mathlib.Core.List.{List}
use native.Mathlib.Omega.{arith}
use native.Mathlib.Numerals.{add-one}
use lib.Dec.{eqb}
use Rattle.std.proofs.Common.{Option, None, Some}
use borrow.Author.Tests.{eqb-true, eqb-false, ne_eqb, lt-ltb}
use Rattle.model.specs.declared.Rejection.{Rejection}
use Rattle.model.specs.Lists.{◌⊃◌}
use Rattle.model.specs.Bytes.{magnitude}
use Rattle.model.specs.Rules.{Check, check, passed, rejected, rejection_at}
use Rattle.model.specs.Image.{Tree, tree_of, parent}
use Rattle.model.specs.Given.{Sound}
use Rattle.model.specs.Values.{vertex_size, connectivity_of}
use Rattle.model.specs.Elements.{MIXED, NFACE, element_type_of, reference, connectivity_length, is_type_number, is_node, face_number, not_zero, element_of, is_element, is_face}
use Rattle.model.specs.Elements.{reference_check_at, reference_check}
use Rattle.model.specs.Corner.{number_at}
use Rattle.model.proofs.Passed.{then-on, check_from-first, check_from-none}
use Rattle.model.proofs.ReferenceChecks.{node-passes, node-fails, face-passes, zero_fails, element-fails, face-fails}
use Rattle.rows.specs.declared.Row.{Row}
use Rattle.references.specs.Arrays.{is_within, FirstFailing}
use Rattle.references.specs.Groups.{type_rules, connectivity_check, face_rule}
use Rattle.section_data.specs.Given.{RowOf}
use Rattle.references.specs.Arrays.{refers_face}
use Rattle.section_data.proofs.ArrayLaws.{row_number}
use Rattle.references.proofs.Failing.{failing_same}

-- the row of a section's references
module _ {b : List ℕ} (g : Sound b) (s : ℕ) {r : Row} (o : RowOf b (connectivity_of (tree_of b) s) r) where
  pub long-is : connectivity_length (tree_of b) s ≡ r.n
  unfolding connectivity_length
  long-is = sym o.long

  pub reference-is : (k : ℕ) → k < r.n → reference (tree_of b) s k ≡ number_at b r.at r.width k
  unfolding reference
  reference-is k h = row_number g o k h

  -- 34 at an entry that is no type number
  pub node-same : (limit : ℕ) → limit ≡ vertex_size (tree_of b) (parent (tree_of b) s) 0 → (k : ℕ) → k < r.n → is_type_number (tree_of b) s k ≡ false
      → is_within b r.at r.width limit k ≡ is_node (tree_of b) s k
  unfolding is_node is_within
  node-same limit m k h y = rw (y, reference-is k h, ← m)

  pub first-node : (limit : ℕ) → limit ≡ vertex_size (tree_of b) (parent (tree_of b) s) 0 → (element_type_of (tree_of b) s ≡ MIXED → ⊥) → (j : Option ℕ)
      → FirstFailing (is_within b r.at r.width limit) r.n j → FirstFailing (is_node (tree_of b) s) r.n j
  unfolding is_type_number
  first-node limit m y j f = failing_same (λ k h. node-same limit m k h (rw (ne_eqb (element_type_of (tree_of b) s) MIXED y))) j f

  -- 35 to 37
  pub number_is : (k : ℕ) → k < r.n → face_number (tree_of b) s k ≡ magnitude r.width (number_at b r.at r.width k)
  unfolding face_number
  number_is k h = rw (reference-is k h, ← o.wide)

  pub first-face : (z : ℕ) → z ≡ parent (tree_of b) s → (j : Option ℕ) → FirstFailing (refers_face (tree_of b) z b r.at r.width) r.n j
      → FirstFailing (is_face (tree_of b) s) r.n j
  unfolding is_face refers_face
  first-face z m j f = failing_same {p = refers_face (tree_of b) z b r.at r.width} {q = is_face (tree_of b) s} (λ k h. rw (number_is k h, ← m)) j f

-- the first entry that breaks a rule decides
module _ (t : Tree) (s : ℕ) {p : ℕ → Bool} {n : ℕ} (long : connectivity_length t s ≡ n)
    (passes : (k : ℕ) → p k ≡ true → reference_check_at t s k ≡ passed) where
  walk_kept : FirstFailing p n None → passed ≡ reference_check t s
  unfolding reference_check
  walk_kept f = rw long (sym (check_from-none (reference_check_at t s) n 0 (λ k l u. passes k (f.each k (omega arith) (omega arith)))))

  walk_broken : {j : ℕ} {r : Rejection} → FirstFailing p n (Some j) → reference_check_at t s j ≡ rejected r → rejected r ≡ reference_check t s
  unfolding reference_check
  walk_broken {j} f e =
      rw long (sym (check_from-first (reference_check_at t s) n 0 j (omega arith) (omega (arith, f.1)) (λ k l u. passes k (f.0.each k (omega arith) u)) e))

-- 34 of a section whose references are nodes
module _ (t : Tree) (s : ℕ) {n : ℕ} (long : connectivity_length t s ≡ n) (e : element_type_of t s ≡ NFACE → ⊥) where
  cell : eqb (element_type_of t s) NFACE ≡ false
  cell = ne_eqb (element_type_of t s) NFACE e

  pub nodes-kept : FirstFailing (is_node t s) n None → passed ≡ reference_check t s
  nodes-kept f = walk_kept t s long (λ k. node-passes t s k cell) f

  pub nodes_broken : {j : ℕ} → FirstFailing (is_node t s) n (Some j) → rejected (rejection_at 34 s (j + 1)) ≡ reference_check t s
  nodes_broken {j} f = rw add-one (walk_broken t s long (λ k. node-passes t s k cell) f (node-fails t s j cell f.2))

-- 35 to 37 of one whose references are faces
module _ (t : Tree) (s : ℕ) (e : element_type_of t s ≡ NFACE) where
  none : (k : ℕ) → eqb (face_number t s k) 0 ≡ true → not_zero t s k ≡ false
  unfolding not_zero
  none k q = rw (eqb-true (face_number t s k) 0 q)

  some : (k : ℕ) → eqb (face_number t s k) 0 ≡ false → not_zero t s k ≡ true
  unfolding not_zero
  some k q = lt-ltb 0 (face_number t s k) (let d = eqb-false (face_number t s k) 0 q in omega (arith, d))

  known : (k : ℕ) {x : Bool} → element_of t (parent t s) (face_number t s k) ≡ x → is_element t s k ≡ x
  unfolding is_element
  known k o = o

  -- by what the first reference that is no face means
  which : (k : ℕ) → is_face t s k ≡ false → reference_check_at t s k ≡ rejected (rejection_at (face_rule t (parent t s) (face_number t s k)) s (suc k))
  unfolding face_rule
  which k h = by_tests (eqb g 0) refl (element_of t (parent t s) g) refl
    where
      g : ℕ
      g = face_number t s k

      by_tests : (z : Bool) → eqb g 0 ≡ z → (x : Bool) → element_of t (parent t s) g ≡ x
          → reference_check_at t s k ≡ rejected (rejection_at (cond z 35 (cond x 37 36)) s (suc k))
      by_tests true q x o = zero_fails t s k e (none k q)
      by_tests false q true o = face-fails t s k e (some k q) (known k o) h
      by_tests false q false o = element-fails t s k e (some k q) (known k o)

  module _ {n : ℕ} (long : connectivity_length t s ≡ n) where
    pub faces_kept : FirstFailing (is_face t s) n None → passed ≡ reference_check t s
    faces_kept f = walk_kept t s long (λ k. face-passes t s k e) f

    pub faces_broken : {j : ℕ} → FirstFailing (is_face t s) n (Some j) → rejected (rejection_at (face_rule t (parent t s) (face_number t s j)) s (j + 1)) ≡ reference_check t s
    faces_broken {j} f = rw add-one (walk_broken t s long (λ k. face-passes t s k e) f (which j f.2))

-- 38 is asked of MIXED sections alone
pub types_fit : (t : Tree) (s : ℕ) {x : Check} → (element_type_of t s ≡ MIXED → ⊥) → x ≡ reference_check t s → x ≡ connectivity_check t s
unfolding connectivity_check type_rules check ◌⊃◌
types_fit t s e q = q ∙ sym (then-on (reference_check t s) (rw (ne_eqb (element_type_of t s) MIXED e)))
