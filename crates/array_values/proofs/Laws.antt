-- Bits of a float, the size of an array, and the widths of the data types that are handed out.
use Prim.Native.Nat.{ℕ, suc, ◌+◌, ◌*◌, ◌<◌, ◌≤◌}
use mathlib.Core.Path.{◌≡◌, refl, sym, ◌∙◌}
use mathlib.Core.Bool.{Bool, true, false, not, ◌&&◌}
use mathlib.Core.List.{List}
use native.Mathlib.Omega.{arith}
use native.Mathlib.Nat.{mul-le-mul_left, mul_comm, mul-suc}
use lib.Dec.{T, leb}
use lib.IntN.{ℤ}
use lib.ListN.{get_or}
use lib.Ieee.{Format, nan_bits, of_bits, to_bits, is_nan, top}
use lib.Ieee.Bits.{to_bits-of_bits, nan_bits_is}
use borrow.Author.Tests.{eqb-true, leb-true, ne_eqb}
use Rattle.model.specs.Lists.{among, row}
use Rattle.model.specs.Bytes.{signed}
use Rattle.model.specs.Image.{Tree, tree_of, node_count, node, dimensions, data_type_of, widths, width, number}
use Rattle.model.specs.Records.{record_rules, data_size_lawful, product}
use Rattle.model.specs.Given.{Sound}
use Rattle.model.specs.ArrayValue.{whole, single, double, value_at}
use Rattle.words.specs.Width.{is_width}
use Rattle.array_values.specs.Readable.{readable}
use Rattle.model.proofs.Logic.{and_first, and_second}
use Rattle.model.proofs.Walks.{each}
use Rattle.model.proofs.Accepted.{record_rule}

pub no_nan : (t : Bool) → t ≡ false → T (not t)
no_nan t h = rw h tt

-- a float that is no NaN's bits is none, and has the bits that it was made from
pub bits_kept : (f : Format) (x : ℕ) → x < 2 * top f → nan_bits f x ≡ false → (to_bits f (of_bits f x) ≡ x) × (is_nan (of_bits f x) ≡ false)
bits_kept f x l h = let n = sym (nan_bits_is f x) ∙ h in (to_bits-of_bits f x l (no_nan (is_nan (of_bits f x)) n), n)

-- rule 16, at a width w
pub array_size : (b : List ℕ) → Sound b → (i : ℕ) → i < node_count b → (w : ℕ) → w ≡ width (tree_of b) i
    → product (dimensions (tree_of b) i) * w ≡ (node (tree_of b) i).data_size
unfolding record_rules data_size_lawful
array_size b s i h w e =
    rw e (eqb-true _ _ (and_second (not (among 0 (dimensions (tree_of b) i))) _ (record_rule b s.table 16 i h)))

pub width_is : (t : Tree) (i : ℕ) {d : ℕ} → d ≡ data_type_of t i → get_or widths d 0 ≡ width t i
unfolding width
width_is t i e = rw e

-- a value's bytes lie within the data, where the data type is n and its width w
pub array_room : (b : List ℕ) → Sound b → (i : ℕ) → i < node_count b → {d : ℕ} → d ≡ data_type_of (tree_of b) i → (n w : ℕ) → d ≡ n → w ≡ get_or widths n 0
    → (k : ℕ) → k < product (dimensions (tree_of b) i) → (w ≡ width (tree_of b) i) × (w * k + w ≤ (node (tree_of b) i).data_size)
array_room b s i h f n w g u k l =
    let p = product (dimensions (tree_of b) i) in
    let e : w ≡ width (tree_of b) i = u ∙ width_is (tree_of b) i (sym g ∙ f) in
    let a = array_size b s i h w e in
    let m : w * suc k ≤ w * p = mul-le-mul_left w l in
    let c = mul_comm w p in
    let d : w * suc k ≡ w * k + w = omega (arith, mul-suc w k) in
    (e, omega arith)

wide : ℕ → Bool
wide d = is_width (get_or widths d 0) && leb d 11

-- the data types that are handed out are 4 or 8 bytes wide
pub readable-wide : (d : ℕ) → among d readable ≡ true → T (is_width (get_or widths d 0)) × (d ≤ 11)
unfolding widths wide
readable-wide d e =
    let h = each wide d readable refl e in
    (rw (and_first (is_width (get_or widths d 0)) (leb d 11) h) tt, leb-true d 11 (and_second (is_width (get_or widths d 0)) (leb d 11) h))

-- value k by its data type
module _ (t : Tree) (i d : ℕ) (e : d ≡ data_type_of t i) (k : ℕ) where
  pub value-single : {x : ℕ} → x ≡ number t i k → d ≡ 6 → single x ≡ value_at t i k
  unfolding value_at row
  value-single h f = let g : data_type_of t i ≡ 6 = sym e ∙ f in rw (h, g)

  pub value-double : {x : ℕ} → x ≡ number t i k → d ≡ 9 → double x ≡ value_at t i k
  unfolding value_at row
  value-double h f = let g : data_type_of t i ≡ 9 = sym e ∙ f in rw (h, g)

  pub value-whole : {z : ℤ} → z ≡ signed (width t i) (number t i k) → (d ≡ 6 → ⊥) → (d ≡ 9 → ⊥) → whole z ≡ value_at t i k
  unfolding value_at row
  value-whole h f g = rw (h, ← e, ne_eqb d 6 f, ne_eqb d 9 g)
