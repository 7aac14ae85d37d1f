-- The first byte that differs, word by word: the zeros below the lowest set bit of the difference of two words tell how many low bytes they share.
use Prim.Native.Nat.{ℕ, zero, suc, ◌+◌, ◌*◌, ◌-◌, ◌/◌, ◌%◌, ◌^◌, ◌≤◌, ◌<◌}
use mathlib.Core.Path.{◌≡◌, refl, sym, ap, ◌∙◌}
use mathlib.Core.Bool.{Bool, true, false, cond, ◌&&◌}
use mathlib.Core.List.{List, [], ◌∷◌}
use native.Mathlib.Omega.{arith}
use native.Mathlib.Decide.{ℕ_discrete}
use native.Mathlib.Nat.{suc-add, mul_assoc, pow-succ'}
use lib.Dec.{eqb}
use lib.Count.{count_trailing_zeros}
use lib.ListN.{length, take, drop, length-drop}
use lib.Seq.{drop-drop}
use borrow.Author.Tests.{eqb-true, eqb-false, eq-eqb, ne_eqb}
use Rattle.model.specs.Bytes.{le}
use Rattle.model.specs.NameBytes.{first_difference}
use Rattle.std.specs.Int.{abs_diff}
use Rattle.words.specs.Difference.{same_bytes}
use Rattle.words.proofs.Same.{Bytes, byte_pair, bytes_drop}

-- an even number has a zero more than its half
even : (k m : ℕ) → count_trailing_zeros (suc k) (2 * m) ≡ suc (count_trailing_zeros k m)
unfolding count_trailing_zeros
even k m = let e : 2 * m % 2 ≡ 0 = omega arith in let f : 2 * m / 2 ≡ m = omega arith in rw (e, f)

-- a byte of zeros
whole_byte : (k m : ℕ) → count_trailing_zeros (8 + k) (256 * m) ≡ 8 + count_trailing_zeros k m
whole_byte k m =
    let a : 256 * m ≡ 2 * (2 * (2 * (2 * (2 * (2 * (2 * (2 * m))))))) = omega arith in
    let b : 8 + k ≡ suc (suc (suc (suc (suc (suc (suc (suc k))))))) = omega arith in
    rw (a, b, even, even, even, even, even, even, even, even) (omega arith)

-- a byte that is not zero
part_byte : (j k n : ℕ) → ((m : ℕ) → n ≡ 2 ^ j * m → ⊥) → count_trailing_zeros (j + k) n < j
unfolding count_trailing_zeros
part_byte zero k n f = absurd (f n (omega arith))
part_byte (suc j) k n f =
    elim (ℕ_discrete (n % 2) 0) [
      | yes e ↦ let h = part_byte j k (n / 2) (λ m g. f m (twice m e g)) in rw (suc-add, e) (omega arith)
      | no z ↦ let e : n % 2 ≡ 1 = omega (arith, z) in rw (suc-add, e) (omega arith)
    ]
  where
    twice : (m : ℕ) → n % 2 ≡ 0 → n / 2 ≡ 2 ^ j * m → n ≡ 2 ^ suc j * m
    twice m e g = let d : n ≡ 2 * (n / 2) = omega arith in d ∙ rw (g, pow-succ') (sym (mul_assoc 2 (2 ^ j) m))

pub shared_bytes : (w x y : ℕ) → count_trailing_zeros (8 * w) (abs_diff x y) / 8 ≡ same_bytes w x y
unfolding same_bytes count_trailing_zeros
shared_bytes zero x y = refl
shared_bytes (suc w) x y = by_test (eqb (x % 256) (y % 256)) refl (shared_bytes w (x / 256) (y / 256))
  where
    by_test : (t : Bool) → eqb (x % 256) (y % 256) ≡ t → count_trailing_zeros (8 * w) (abs_diff (x / 256) (y / 256)) / 8 ≡ same_bytes w (x / 256) (y / 256)
        → count_trailing_zeros (8 * suc w) (abs_diff x y) / 8 ≡ cond t (suc (same_bytes w (x / 256) (y / 256))) 0
    by_test true e h =
        let q = eqb-true (x % 256) (y % 256) e in
        let g : abs_diff x y ≡ 256 * abs_diff (x / 256) (y / 256) = omega arith in
        let k : 8 * suc w ≡ 8 + 8 * w = omega arith in
        rw (g, k, whole_byte (8 * w) (abs_diff (x / 256) (y / 256)), ← h) (omega arith)
    by_test false e h =
        let q = eqb-false (x % 256) (y % 256) e in
        let k : 8 * suc w ≡ 8 + 8 * w = omega arith in
        let p : count_trailing_zeros (8 + 8 * w) (abs_diff x y) < 8 = part_byte 8 (8 * w) (abs_diff x y) (λ m g. q (omega arith)) in
        rw k (omega arith)

-- two numbers that differ do not share all bytes
pub some_differ : (w x y : ℕ) → x < 256 ^ w → y < 256 ^ w → (x ≡ y → ⊥) → same_bytes w x y < w
unfolding same_bytes
some_differ zero x y h l n = absurd (n (omega arith))
some_differ (suc w) x y h l n = by_test (eqb (x % 256) (y % 256)) refl (λ z. some_differ w (x / 256) (y / 256) (below x h) (below y l) z)
  where
    below : (v : ℕ) → v < 256 ^ suc w → v / 256 < 256 ^ w
    below v k = let p = rw pow-succ' at k in omega arith

    by_test : (t : Bool) → eqb (x % 256) (y % 256) ≡ t → ((x / 256 ≡ y / 256 → ⊥) → same_bytes w (x / 256) (y / 256) < w)
        → cond t (suc (same_bytes w (x / 256) (y / 256))) 0 < suc w
    by_test true e later =
        let q = eqb-true (x % 256) (y % 256) e in
        let r = later (λ (z : x / 256 ≡ y / 256). n (omega arith)) in
        omega arith
    by_test false e later = omega arith

-- the first word decides, or what comes after it
word : (w r : ℕ) (s u : List ℕ) → w ≤ length s → w ≤ length u → Bytes s → Bytes u
    → first_difference (take (w + r) s) (take (w + r) u)
    ≡ cond (eqb (le w s) (le w u)) (w + first_difference (take r (drop w s)) (take r (drop w u))) (suc (same_bytes w (le w s) (le w u)))
unfolding first_difference le same_bytes
word zero r s u h l a b = let e : 0 + r ≡ r = omega arith in rw e (omega arith)
word (suc w) r [] u h l a b = absurd (omega arith)
word (suc w) r (x ∷ s) [] h l a b = absurd (omega arith)
word (suc w) r (x ∷ s) (y ∷ u) h l a b =
    let p = a 0 in
    let q = b 0 in
    let e : (x + 256 * le w s) % 256 ≡ x = omega arith in
    let f : (y + 256 * le w u) % 256 ≡ y = omega arith in
    let g : (x + 256 * le w s) / 256 ≡ le w s = omega arith in
    let i : (y + 256 * le w u) / 256 ≡ le w u = omega arith in
    rw (suc-add, byte_pair x y (le w s) (le w u) p q, e, f, g, i, word w r s u (omega arith) (omega arith) (λ j. a (suc j)) (λ j. b (suc j)))
    (by_tests (eqb x y) (eqb (le w s) (le w u)) (first_difference (take r (drop w s)) (take r (drop w u))) (same_bytes w (le w s) (le w u)))
  where
    by_tests : (t v : Bool) (m n : ℕ) → cond t (suc (cond v (w + m) (suc n))) 1 ≡ cond (t && v) (suc w + m) (suc (cond t (suc n) 0))
    by_tests true true m n = omega arith
    by_tests true false m n = refl
    by_tests false v m n = refl

-- two fields of n bytes are the same up to byte d: what is left gives the whole
pub record Agree (n : ℕ) (a : List ℕ) (p : ℕ) (b : List ℕ) (q d : ℕ) : Type 0 where
  pub inside : d ≤ n
  pub rest : d + first_difference (take (n - d) (drop (p + d) a)) (take (n - d) (drop (q + d) b)) ≡ first_difference (take n (drop p a)) (take n (drop q b))

module _ {n : ℕ} {a b : List ℕ} {p q d : ℕ} (l : Agree n a p b q d) where
  pub agree-done : n ≤ d → suc n ≡ first_difference (take n (drop p a)) (take n (drop q b))
  unfolding first_difference
  agree-done k = let i = l.inside in let e : n - d ≡ 0 = omega arith in let r = rw e at l.rest in omega arith

  -- the next word of w bytes
  module _ (h : p + n ≤ length a) (m : q + n ≤ length b) (w : ℕ) (k : d + w ≤ n) (f : Bytes a) (g : Bytes b) where
    next : d + cond (eqb (le w (drop (p + d) a)) (le w (drop (q + d) b)))
        (w + first_difference (take (n - (d + w)) (drop (p + (d + w)) a)) (take (n - (d + w)) (drop (q + (d + w)) b)))
        (suc (same_bytes w (le w (drop (p + d) a)) (le w (drop (q + d) b))))
        ≡ first_difference (take n (drop p a)) (take n (drop q b))
    next =
        let r = n - (d + w) in
        let e : n - d ≡ w + r = omega arith in
        let x : p + d + w ≡ p + (d + w) = omega arith in
        let y : q + d + w ≡ q + (d + w) = omega arith in
        let s = word w r (drop (p + d) a) (drop (q + d) b) (rw length-drop (omega arith)) (rw length-drop (omega arith)) (bytes_drop (p + d) a f) (bytes_drop (q + d) b g) in
        ap (λ (z : ℕ). d + z) (sym (rw (drop-drop w (p + d) a, drop-drop w (q + d) b, x, y) at s)) ∙ rw e at l.rest

    pub agree_more : le w (drop (p + d) a) ≡ le w (drop (q + d) b) → Agree n a p b q (d + w)
    agree_more e =
        let t = eq-eqb (le w (drop (p + d) a)) (le w (drop (q + d) b)) e in
        let r = rw t at next in
        record { inside = k; rest = omega arith }

    pub agree_stop : (le w (drop (p + d) a) ≡ le w (drop (q + d) b) → ⊥)
        → d + suc (same_bytes w (le w (drop (p + d) a)) (le w (drop (q + d) b))) ≡ first_difference (take n (drop p a)) (take n (drop q b))
    agree_stop e = rw (ne_eqb (le w (drop (p + d) a)) (le w (drop (q + d) b)) e) at next
