-- A PointRange: the distances of its numbers, what its directions tell, and their product.
use Prim.Native.Nat.{ℕ, zero, suc, ◌+◌, ◌*◌, ◌-◌, ◌/◌, ◌≤◌, ◌<◌}
use mathlib.Core.Path.{◌≡◌, refl, sym, ap, ◌∙◌}
use mathlib.Core.Bool.{Bool, true, false, cond, not, ◌&&◌, ◌||◌}
use mathlib.Core.List.{List, [], ◌∷◌}
use native.Mathlib.Omega.{arith}
use native.Mathlib.Nat.{one-mul, mul-one, mul-pos, mul_assoc, mul-le-mul_left, div-lt_iff_lt-mul}
use lib.Dec.{eqb, leb, ltb}
use borrow.Author.Tests.{leb-true, leb-false, ltb-false, le-leb, le-ltb, lt-leb, ne_eqb, not-true}
use Rattle.model.specs.Lists.{row}
use Rattle.model.specs.Bytes.{half, negative, magnitude, below, distance}
use Rattle.model.specs.Image.{Tree, tree_of, I4, I8}
use Rattle.model.specs.Given.{Sound}
use Rattle.model.specs.Records.{product}
use Rattle.model.specs.Values.{typed, shaped, type_lawful, range_shape, index_dimension, zone_above, direction_lawful, point_range_value, index_range_value, value_lawful}
use Rattle.model.specs.Values.{points_in, points_from, points}
use Rattle.model.proofs.Logic.{untrue, and_first, and_second, and_both}
use Rattle.model.proofs.Walks.{every_at}
use Rattle.types.specs.Given.{HasNumber}
use Rattle.types.proofs.StoredNumbers.{whole_wide, shaped-is, has_by}
use Rattle.points.specs.Given.{TypedRange}
use Rattle.points.specs.Between.{lawful_between}

pub distance_low : (w x : ℕ) → x < half w → x + half w ≡ distance w x
unfolding distance negative
distance_low w x h = rw (lt-leb (half w) x h)

pub distance_high : (w x : ℕ) → half w ≤ x → x - half w ≡ distance w x
unfolding distance negative
distance_high w x h = rw (le-leb (half w) x h)

-- a begin and an end, and their distances
module _ (w b e : ℕ) (m : 2147483647 < half w) (l : b < half w + half w) (k : e < half w + half w) where
  pub record Near : Type 0 where
    pub from : half w - 2147483647 ≤ distance w b
    pub to : distance w e ≤ half w + 2147483647
    pub rising : distance w b ≤ distance w e

  -- the order as the model has it, by the two signs
  abbrev at_most : Bool → Bool → Bool
  at_most x y = not (cond y (not x || ltb e b) (not x && ltb e b))

  near : lawful_between w b e ≡ true → Near
  unfolding magnitude below negative
  near h =
      let r = and_first (leb (magnitude w b) 2147483647) _ (and_first (leb (magnitude w b) 2147483647 && leb (magnitude w e) 2147483647) _ h) in
      let s = and_second (leb (magnitude w b) 2147483647) _ (and_first (leb (magnitude w b) 2147483647 && leb (magnitude w e) 2147483647) _ h) in
      by_sign (leb (half w) b) refl (leb (half w) e) refl (leb-true _ _ r) (leb-true _ _ s)
      (and_second (leb (magnitude w b) 2147483647 && leb (magnitude w e) 2147483647) _ h)
    where
      near_by : {x y : ℕ} → x ≡ distance w b → y ≡ distance w e → half w - 2147483647 ≤ x → y ≤ half w + 2147483647 → x ≤ y → Near
      near_by p q f t r = record { from = rw (← p) f; to = rw (← q) t; rising = rw (← p, ← q) r }

      by_sign : (x : Bool) → leb (half w) b ≡ x → (y : Bool) → leb (half w) e ≡ y → cond x (2 * half w - b) b ≤ 2147483647
          → cond y (2 * half w - e) e ≤ 2147483647 → at_most x y ≡ true → Near
      by_sign true p true q r s h =
          let i = leb-true (half w) b p in
          let j = leb-true (half w) e q in
          let n = ltb-false e b (not-true (ltb e b) h) in
          near_by (distance_high w b i) (distance_high w e j) (omega arith) (omega arith) (omega arith)
      by_sign true p false q r s h =
          let i = leb-true (half w) b p in
          let j = leb-false (half w) e q in
          near_by (distance_high w b i) (distance_low w e j) (omega arith) (omega arith) (omega arith)
      by_sign false p true q r s h = untrue h
      by_sign false p false q r s h =
          let i = leb-false (half w) b p in
          let j = leb-false (half w) e q in
          let n = ltb-false e b (not-true (ltb e b) h) in
          near_by (distance_low w b i) (distance_low w e j) (omega arith) (omega arith) (omega arith)

  lawful : Near → lawful_between w b e ≡ true
  unfolding magnitude below distance negative
  lawful n = by_sign (leb (half w) b) refl (leb (half w) e) refl n.from n.to n.rising
    where
      all : (x y : ℕ) {z : Bool} → x ≤ 2147483647 → y ≤ 2147483647 → z ≡ true → (leb x 2147483647 && leb y 2147483647 && z) ≡ true
      all x y {z} p q r =
          and_both (leb x 2147483647 && leb y 2147483647) z (and_both (leb x 2147483647) (leb y 2147483647) (le-leb x 2147483647 p) (le-leb y 2147483647 q)) r

      by_sign : (x : Bool) → leb (half w) b ≡ x → (y : Bool) → leb (half w) e ≡ y → half w - 2147483647 ≤ cond x (b - half w) (b + half w)
          → cond y (e - half w) (e + half w) ≤ half w + 2147483647 → cond x (b - half w) (b + half w) ≤ cond y (e - half w) (e + half w)
          → (leb (cond x (2 * half w - b) b) 2147483647 && leb (cond y (2 * half w - e) e) 2147483647 && at_most x y) ≡ true
      by_sign true p true q f t r =
          let i = leb-true (half w) b p in
          let j = leb-true (half w) e q in
          all (2 * half w - b) (2 * half w - e) (omega arith) (omega arith) (rw (le-ltb e b (omega arith)))
      by_sign true p false q f t r =
          let i = leb-true (half w) b p in
          let j = leb-false (half w) e q in
          all (2 * half w - b) e (omega arith) (omega arith) refl
      by_sign false p true q f t r =
          let i = leb-false (half w) b p in
          let j = leb-true (half w) e q in
          absurd (omega arith)
      by_sign false p false q f t r =
          let i = leb-false (half w) b p in
          let j = leb-false (half w) e q in
          all b e (omega arith) (omega arith) (rw (le-ltb e b (omega arith)))

  -- where a test of the distances fails
  pub none_between : (Near → ⊥) → 0 ≡ cond (lawful_between w b e) (distance w e - distance w b + 1) 0
  none_between n = by_test (lawful_between w b e) refl
    where
      by_test : (c : Bool) → lawful_between w b e ≡ c → 0 ≡ cond c (distance w e - distance w b + 1) 0
      by_test true q = absurd (n (near q))
      by_test false q = refl

  pub some_between : Near → distance w e - distance w b + 1 ≡ cond (lawful_between w b e) (distance w e - distance w b + 1) 0
  some_between n = rw (lawful n)

-- two numbers a direction
module _ (b : List ℕ) (i : ℕ) (g : TypedRange b i) where
  range-type : (typed (tree_of b) i (I4 ∷ I8 ∷ []) && shaped (tree_of b) i (index_dimension (tree_of b) (zone_above (tree_of b) i) ∷ 2 ∷ [])) ≡ true
  unfolding type_lawful range_shape row
  range-type = rw (g.range, g.flow) at g.type

  pub point_has : Sound b → (k : ℕ) → k < 2 * index_dimension (tree_of b) (zone_above (tree_of b) i) → HasNumber b i k
  unfolding product
  point_has s k l =
      let t = tree_of b in
      let n = index_dimension t (zone_above t i) in
      has_by b s i g.inside (whole_wide t i (and_first (typed t i (I4 ∷ I8 ∷ [])) _ range-type)) (n ∷ 2 ∷ [])
      (shaped-is t i (n ∷ 2 ∷ []) (and_second (typed t i (I4 ∷ I8 ∷ [])) _ range-type)) k (omega arith)

  -- 25: each direction is lawful
  pub direction_lawful_lem : value_lawful (tree_of b) i ≡ true → (d : ℕ) → d < index_dimension (tree_of b) (zone_above (tree_of b) i)
      → direction_lawful (tree_of b) i d ≡ true
  unfolding value_lawful index_range_value point_range_value row
  direction_lawful_lem v d l =
      let t = tree_of b in
      every_at (direction_lawful t i) (index_dimension t (zone_above t i)) 0 d (rw (g.range, g.flow) at v) (omega arith) (omega arith)

-- the points of a direction, or 0, tell whether it is lawful
module _ (t : Tree) (i d : ℕ) {r : ℕ} (e : r ≡ cond (direction_lawful t i d) (points_in t i d) 0) where
  pub unlawful : r ≡ 0 → direction_lawful t i d ≡ false
  unfolding points_in
  unlawful z = by_test (direction_lawful t i d) refl (sym z ∙ e)
    where
      by_test : (c : Bool) → direction_lawful t i d ≡ c → 0 ≡ cond c (points_in t i d) 0 → c ≡ false
      by_test true q h = absurd (omega arith)
      by_test false q h = refl

  pub is_lawful : (r ≡ 0 → ⊥) → direction_lawful t i d ≡ true
  is_lawful z = by_test (direction_lawful t i d) refl
    where
      by_test : (c : Bool) → direction_lawful t i d ≡ c → c ≡ true
      by_test true q = refl
      by_test false q = absurd (z (e ∙ rw q))

  pub points_are : direction_lawful t i d ≡ true → r ≡ points_in t i d
  points_are q = e ∙ rw q

-- some points stand in each direction
points-some : (t : Tree) (i k d : ℕ) → 0 < points_from t i k d
unfolding points_from points_in
points-some t i zero d = omega arith
points-some t i (suc k) d = mul-pos {m = points_in t i d} (omega arith) (points-some t i k (suc d))

-- the product p of the directions before d of n
abbrev pub ProductTo : Tree → ℕ → ℕ → ℕ → ℕ → Type 0
ProductTo t i n d p = p * points_from t i (n - d) d ≡ points t i

pub product_start : (t : Tree) (i : ℕ) {n : ℕ} → n ≡ index_dimension t (zone_above t i) → ProductTo t i n 0 1
unfolding points
product_start t i e = let m : index_dimension t (zone_above t i) - 0 ≡ index_dimension t (zone_above t i) = omega arith in rw (e, m) (one-mul _)

module _ (t : Tree) (i n d p : ℕ) (h : ProductTo t i n d p) where
  step : d < n → p * points_in t i d * points_from t i (n - (d + 1)) (d + 1) ≡ points t i
  unfolding points_from
  step l =
      let m : n - d ≡ suc (n - (d + 1)) = omega arith in
      let s : suc d ≡ d + 1 = omega arith in
      mul_assoc p (points_in t i d) _ ∙ (rw (m, s) at h)

  pub product_more : {k : ℕ} → d < n → k ≡ points_in t i d → ProductTo t i n (d + 1) (p * k)
  product_more l e = rw e (step l)

  pub product_stop : (size : ℕ) {k : ℕ} → d < n → k ≡ points_in t i d → size / k < p → false ≡ eqb size (points t i)
  unfolding points_in
  product_stop size {k} l e m =
      let o : size < p * k = (div-lt_iff_lt-mul {k = k} {x = size} {y = p} (omega arith)).0 m in
      let f : p * k * points_from t i (n - (d + 1)) (d + 1) ≡ points t i = rw e (step l) in
      let g : p * k * 1 ≤ p * k * points_from t i (n - (d + 1)) (d + 1) = mul-le-mul_left (p * k) (points-some t i (n - (d + 1)) (d + 1)) in
      sym (ne_eqb size (points t i) (λ q. absurd (omega arith)))

  pub product-done : (size : ℕ) → n ≤ d → eqb size p ≡ eqb size (points t i)
  unfolding points_from
  product-done size l =
      let m : n - d ≡ 0 = omega arith in
      let f : p * points_from t i 0 d ≡ points t i = rw m at h in
      ap (eqb size) (sym (mul-one p) ∙ f)
