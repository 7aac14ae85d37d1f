-- What a data type and a shape say of the numbers that a node stores.
use Prim.Native.Nat.{ℕ, ◌+◌, ◌*◌, ◌≤◌, ◌<◌}
use mathlib.Core.Path.{◌≡◌, refl, sym, ap, ◌∙◌}
use mathlib.Core.Bool.{Bool, true, false, not, ◌||◌, or-false}
use mathlib.Core.List.{List, [], ◌∷◌}
use native.Mathlib.Omega.{arith}
use native.Mathlib.Nat.{mul-suc, mul_comm, mul-le-mul_left}
use lib.ListN.{length, get_or, take, drop}
use lib.Seq.{drop-drop}
use lib.Dec.{T, eqb}
use borrow.Author.Tests.{eqb-true}
use Rattle.model.specs.Lists.{among}
use Rattle.model.specs.Image.{Tree, tree_of, node_count, node, dimensions, data_type_of, width, widths, stored, data_offset, I4, I8}
use Rattle.model.specs.Given.{Sound}
use Rattle.model.specs.Records.{product, data_size_lawful, record_rules}
use Rattle.model.specs.Values.{typed, shaped, flat, size}
use Rattle.model.proofs.Logic.{and_second}
use Rattle.model.proofs.Accepted.{record_rule}
use Rattle.words.specs.Width.{is_width}
use Rattle.types.specs.Given.{HasNumber}
use Rattle.model.proofs.Logic.{same-is}

module _ (t : Tree) (i : ℕ) where
  -- one type, one of two types
  pub one_type : (d : ℕ) → typed t i (d ∷ []) ≡ true → data_type_of t i ≡ d
  unfolding typed among
  one_type d e = eqb-true (data_type_of t i) d (sym (or-false (eqb (data_type_of t i) d)) ∙ e)

  -- one of four types is one of the first two or one of the others
  pub four_types : (a b c d : ℕ) → typed t i (a ∷ b ∷ c ∷ d ∷ []) ≡ (typed t i (a ∷ b ∷ []) || typed t i (c ∷ d ∷ []))
  unfolding typed among
  four_types a b c d = by_test (eqb (data_type_of t i) a) (eqb (data_type_of t i) b) _
    where
      by_test : (x y z : Bool) → (x || (y || z)) ≡ ((x || (y || false)) || z)
      by_test true y z = refl
      by_test false true z = refl
      by_test false false z = refl

  -- an I4 is 4 bytes wide, an I4 or I8 is 4 or 8 wide
  pub four_wide : typed t i (I4 ∷ []) ≡ true → width t i ≡ 4
  unfolding width widths
  four_wide e = rw (one_type 4 e)

  pub whole_wide : typed t i (I4 ∷ I8 ∷ []) ≡ true → T (is_width (width t i))
  unfolding typed among width widths
  whole_wide e = by_test (eqb (data_type_of t i) 4) refl (eqb (data_type_of t i) 7) refl e
    where
      by_test : (a : Bool) → eqb (data_type_of t i) 4 ≡ a → (d : Bool) → eqb (data_type_of t i) 7 ≡ d → (a || (d || false)) ≡ true
          → T (is_width (get_or widths (data_type_of t i) 0))
      by_test true p d q h = rw (eqb-true (data_type_of t i) 4 p) tt
      by_test false p true q h = rw (eqb-true (data_type_of t i) 7 q) tt
      by_test false p false q h = absurd (let z : ◌≡◌ {A = ℕ} 0 1 = cc in omega arith)

  pub whole_four : typed t i (I4 ∷ []) ≡ true → T (is_width (width t i))
  whole_four e = rw (four_wide e) tt

  pub shaped-is : (sizes : List ℕ) → shaped t i sizes ≡ true → dimensions t i ≡ sizes
  unfolding shaped
  shaped-is sizes e = same-is (dimensions t i) sizes e

  pub flat-is : flat t i ≡ true → dimensions t i ≡ size t i ∷ []
  unfolding flat size
  flat-is e = single (dimensions t i) (eqb-true (length (dimensions t i)) 1 e)
    where
      single : (l : List ℕ) → length l ≡ 1 → l ≡ get_or l 0 0 ∷ []
      single [] h = absurd (omega arith)
      single (x ∷ []) h = refl
      single (x ∷ y ∷ l) h = absurd (omega arith)

-- rule 16: as many bytes as the numbers take
pub bytes_are : (b : List ℕ) → Sound b → (i : ℕ) → i < node_count b → (sizes : List ℕ) → dimensions (tree_of b) i ≡ sizes
    → (node (tree_of b) i).data_size ≡ product sizes * width (tree_of b) i
unfolding data_size_lawful record_rules
bytes_are b s i h sizes e =
    let r = record_rule b s.table 16 i h in
    sym (eqb-true _ _ (and_second (not (among 0 (dimensions (tree_of b) i))) _ r)) ∙ ap (λ (l : List ℕ). product l * width (tree_of b) i) e

-- the data bytes of a node, in the image
pub stored_is : (b : List ℕ) (i : ℕ) → stored (tree_of b) i ≡ take (node (tree_of b) i).data_size (drop ((tree_of b).area_at + (node (tree_of b) i).data_at) b)
unfolding stored tree_of
stored_is b i = ap (take (node (tree_of b) i).data_size) (drop-drop (node (tree_of b) i).data_at (data_offset b) b)

-- which numbers can be read
pub scaled : (w k n : ℕ) → k < n → w * k + w ≤ n * w
scaled w k n h = rw (← mul-suc w k, mul_comm n w) (mul-le-mul_left w h)

module _ (b : List ℕ) (s : Sound b) (i : ℕ) (h : i < node_count b) where
  pub has_by : T (is_width (width (tree_of b) i)) → (sizes : List ℕ) → dimensions (tree_of b) i ≡ sizes → (k : ℕ) → k < product sizes → HasNumber b i k
  has_by w sizes e k l =
      record { inside = h; wide = w; room = rw (bytes_are b s i h sizes e) (scaled (width (tree_of b) i) k (product sizes) l) }

  -- of one dimension; of a pair
  pub has_flat : T (is_width (width (tree_of b) i)) → flat (tree_of b) i ≡ true → (k : ℕ) → k < size (tree_of b) i → HasNumber b i k
  unfolding product
  has_flat w e k l = has_by w (size (tree_of b) i ∷ []) (flat-is (tree_of b) i e) k (omega arith)

  pub has_pair : T (is_width (width (tree_of b) i)) → shaped (tree_of b) i (2 ∷ []) ≡ true → HasNumber b i 1
  unfolding product
  has_pair w e = has_by w (2 ∷ []) (shaped-is (tree_of b) i (2 ∷ []) e) 1 (omega arith)

pub has_less : (b : List ℕ) (i k j : ℕ) → HasNumber b i k → j ≤ k → HasNumber b i j
has_less b i k j a l =
    record { inside = a.inside; wide = a.wide; room = omega (arith, mul-le-mul_left {m = j} {n = k} (width (tree_of b) i) l) }
