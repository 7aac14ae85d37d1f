-- Laws of depth, of running sums and of a running product.
use Prim.Native.Nat.{ℕ, zero, suc, ◌+◌, ◌*◌, ◌-◌, ◌/◌, ◌≤◌, ◌<◌}
use mathlib.Core.Path.{◌≡◌, refl, sym, ap, ◌∙◌}
use mathlib.Core.Bool.{Bool, true, false, not, ◌&&◌, ◌||◌}
use mathlib.Core.List.{List, [], ◌∷◌}
use native.Mathlib.Omega.{arith}
use native.Mathlib.Numerals.{add-one}
use native.Mathlib.Nat.{mul_assoc, mul_comm, mul-pos, mul-one, le-mul_of_pos_right, div-lt_iff_lt-mul, le-div_iff_mul-le}
use lib.Dec.{eqb, leb}
use lib.ListN.{length, get_or, drop, drop_of_length-le}
use lib.Seq.{drop-cons}
use borrow.Author.Tests.{eq-eqb, ne_eqb, le-leb, lt-leb, leb-true, leb-false, eqb-true, eqb-false, not-true}
use Rattle.model.proofs.Logic.{untrue, and_first, and_second}
use Rattle.model.specs.Lists.{among}
use Rattle.model.specs.Image.{Tree, parent, node, dimensions, width}
use Rattle.model.specs.Records.{deeper_than, product, data_size_lawful}

-- the depth, as a walk up meets it
module _ (t : Tree) (d : ℕ) where
  pub deeper_root : deeper_than t d 0 ≡ false
  unfolding deeper_than
  deeper_root = root d
    where
      root : (d : ℕ) → deeper_than t d 0 ≡ false
      root zero = refl
      root (suc d) = refl

  pub deeper_none : (i : ℕ) → d ≤ 0 → deeper_than t d i ≡ not (eqb i 0)
  unfolding deeper_than
  deeper_none i h = let e : d ≡ 0 = omega arith in rw e

  pub deeper_up : (i : ℕ) → 0 < d → (i ≡ 0 → ⊥) → deeper_than t d i ≡ deeper_than t (d - 1) (parent t i)
  unfolding deeper_than
  deeper_up i h n =
      let e : d ≡ suc (d - 1) = omega arith in
      ap (λ (k : ℕ). deeper_than t k i) e ∙ rw (ne_eqb i 0 n)

-- a sum within a total, by what the total leaves
pub within_rest : (sum size total : ℕ) → sum ≤ total → leb size (total - sum) ≡ leb (sum + size) total
within_rest sum size total h = by_test (leb (sum + size) total) refl
  where
    by_test : (t : Bool) → leb (sum + size) total ≡ t → leb size (total - sum) ≡ t
    by_test true e = let l = leb-true (sum + size) total e in le-leb size (total - sum) (omega arith)
    by_test false e = let l = leb-false (sum + size) total e in lt-leb size (total - sum) (omega arith)

-- a part that starts at the sum of those before it ends within the total
pub run_fits : (start sum size total : ℕ) → (eqb start sum && leb (sum + size) total) ≡ true → start + size ≤ total
run_fits start sum size total e =
    let f = eqb-true start sum (and_first (eqb start sum) _ e) in
    let l = leb-true (sum + size) total (and_second (eqb start sum) _ e) in
    omega arith

-- a product within a limit, by a quotient
pub nothing_fits : (m d limit : ℕ) → m ≡ 0 → true ≡ leb (m * d) limit
nothing_fits m d limit e = rw e (sym (le-leb (0 * d) limit (omega arith)))

pub product_fits : (m d limit : ℕ) → (m ≡ 0 → ⊥) → leb d (limit / m) ≡ leb (m * d) limit
product_fits m d limit n = by_test (leb d (limit / m)) refl
  where
    some : 0 < m
    some = omega (arith, n)

    by_test : (t : Bool) → leb d (limit / m) ≡ t → t ≡ leb (m * d) limit
    by_test true e = sym (le-leb (m * d) limit (rw (mul_comm m d) ((le-div_iff_mul-le some).0 (leb-true d (limit / m) e))))
    by_test false e =
        sym (lt-leb (m * d) limit (rw (mul_comm m d) ((div-lt_iff_lt-mul some).0 (leb-false d (limit / m) e))))

-- a length by what a total leaves after an offset
pub rest-is : (at size total : ℕ) → at ≤ total → eqb size (total - at) ≡ eqb (at + size) total
rest-is at size total h = by_test (eqb (at + size) total) refl
  where
    by_test : (t : Bool) → eqb (at + size) total ≡ t → eqb size (total - at) ≡ t
    by_test true e = let q = eqb-true (at + size) total e in eq-eqb size (total - at) (omega arith)
    by_test false e = let q = eqb-false (at + size) total e in ne_eqb size (total - at) (λ (z : size ≡ total - at). q (omega arith))

-- none of the dimensions is 0, and their product times m is the length
abbrev pub sized : ℕ → ℕ → List ℕ → Bool
sized m len s = not (among 0 s) && eqb (m * product s) len

product-some : (s : List ℕ) → among 0 s ≡ false → 0 < product s
unfolding among product
product-some [] e = omega arith
product-some (d ∷ s) e = by_test (eqb 0 d) refl e (λ f. product-some s f)
  where
    by_test : (t : Bool) → eqb 0 d ≡ t → (t || among 0 s) ≡ false → (among 0 s ≡ false → 0 < product s) → 0 < d * product s
    by_test true q f g = untrue (sym f)
    by_test false q f g = let n = eqb-false 0 d q in let p : 0 < d = omega (arith, n) in mul-pos p (g f)

module _ (m len d : ℕ) (s : List ℕ) where
  sized_on : (d ≡ 0 → ⊥) → sized (m * d) len s ≡ sized m len (d ∷ s)
  unfolding among product
  sized_on n = rw (ne_eqb 0 d (λ (z : 0 ≡ d). n (sym z)), mul_assoc m d (product s))

  sized_zero : d ≡ 0 → sized m len (d ∷ s) ≡ false
  unfolding among product
  sized_zero e = rw (eq-eqb 0 d (sym e))

  sized_over : len < m * d → sized m len (d ∷ s) ≡ false
  unfolding among product
  sized_over h = by_test (eqb 0 d) (among 0 s) refl
    where
      by_test : (z t : Bool) → among 0 s ≡ t → (not (z || t) && eqb (m * (d * product s)) len) ≡ false
      by_test true t e = refl
      by_test false true e = refl
      by_test false false e =
          let a = mul_assoc m d (product s) in
          ne_eqb (m * (d * product s)) len (λ (q : m * (d * product s) ≡ len). absurd (omega (arith, le-mul_of_pos_right (m * d) (product-some s e))))

-- dimension k was read as d
module _ (m len : ℕ) (ds : List ℕ) (k : ℕ) (h : k < length ds) {d : ℕ} (e : d ≡ get_or ds k 0) where
  here : drop k ds ≡ d ∷ drop (k + 1) ds
  here = rw (e, add-one k) (drop-cons ds k 0 h)

  pub size-on : (not (eqb d 0) && leb (m * d) len) ≡ true → sized (m * d) len (drop (k + 1) ds) ≡ sized m len (drop k ds)
  size-on f = sized_on m len d (drop (k + 1) ds) (eqb-false d 0 (not-true (eqb d 0) (and_first (not (eqb d 0)) _ f))) ∙ ap (sized m len) (sym here)

  pub size-off : (not (eqb d 0) && leb (m * d) len) ≡ false → sized m len (drop k ds) ≡ false
  size-off f = ap (sized m len) here ∙ by_test (eqb d 0) refl f
    where
      by_test : (t : Bool) → eqb d 0 ≡ t → (not t && leb (m * d) len) ≡ false → sized m len (d ∷ drop (k + 1) ds) ≡ false
      by_test true q g = sized_zero m len d (drop (k + 1) ds) (eqb-true d 0 q)
      by_test false q g = sized_over m len d (drop (k + 1) ds) (leb-false (m * d) len g)

pub size-end : (m len : ℕ) (ds : List ℕ) (k : ℕ) → length ds ≤ k → sized m len (drop k ds) ≡ eqb m len
unfolding among product
size-end m len ds k h = rw (drop_of_length-le ds {i = k} h, mul-one m)

-- as rule 16 says it, of a list and of a node
pub sized_by : (m len : ℕ) (ds : List ℕ) → sized m len ds ≡ (not (among 0 ds) && eqb (product ds * m) len)
sized_by m len ds = rw (mul_comm m (product ds))

pub sized_is : (t : Tree) (i : ℕ) → sized (width t i) (node t i).data_size (dimensions t i) ≡ data_size_lawful t i
unfolding data_size_lawful
sized_is t i = sized_by (width t i) (node t i).data_size (dimensions t i)
