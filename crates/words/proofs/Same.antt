-- Laws of the comparison of bytes, one by one and word by word.
use Prim.Native.Nat.{ℕ, zero, suc, ◌+◌, ◌*◌, ◌-◌, ◌≤◌, ◌<◌}
use mathlib.Core.Path.{◌≡◌, refl, ap, sym, ◌∙◌}
use mathlib.Core.Bool.{Bool, true, false, ◌&&◌, and_assoc}
use mathlib.Core.List.{List, [], ◌∷◌}
use native.Mathlib.Omega.{arith}
use native.Mathlib.Nat.{add-zero, zero-add, suc-add}
use lib.Dec.{eqb}
use lib.ListN.{length, get_or, take, drop, length-drop}
use lib.Seq.{drop-drop, length-take-le, get_or-drop, take-nil}
use borrow.Author.Tests.{eqb-true, eqb-false, eq-eqb, ne_eqb}
use Rattle.model.specs.Bytes.{le, same}
use Rattle.model.proofs.Reading.{le-take}

-- all of them are bytes
abbrev pub Bytes : List ℕ → Type 0
Bytes s = (i : ℕ) → get_or s i 0 < 256

pub byte_pair : (x y m n : ℕ) → x < 256 → y < 256 → eqb (x + 256 * m) (y + 256 * n) ≡ (eqb x y && eqb m n)
byte_pair x y m n h l = by_test (eqb x y) (eqb m n) refl refl
  where
    by_test : (a b : Bool) → eqb x y ≡ a → eqb m n ≡ b → eqb (x + 256 * m) (y + 256 * n) ≡ (a && b)
    by_test true true e f = let p = eqb-true x y e in let q = eqb-true m n f in eq-eqb (x + 256 * m) (y + 256 * n) (omega arith)
    by_test true false e f = let p = eqb-true x y e in let q = eqb-false m n f in
        ne_eqb (x + 256 * m) (y + 256 * n) (λ (z : x + 256 * m ≡ y + 256 * n). q (omega arith))
    by_test false b e f = let q = eqb-false x y e in ne_eqb (x + 256 * m) (y + 256 * n) (λ (z : x + 256 * m ≡ y + 256 * n). q (omega arith))

-- two lists of bytes are the same where their first words are, and what comes after them
pub same_word : (w : ℕ) (s t : List ℕ) → w ≤ length s → w ≤ length t → Bytes s → Bytes t
    → same s t ≡ (eqb (le w s) (le w t) && same (drop w s) (drop w t))
unfolding same le
same_word zero s t h l a b = refl
same_word (suc w) [] t h l a b = absurd (omega arith)
same_word (suc w) (x ∷ s) [] h l a b = absurd (omega arith)
same_word (suc w) (x ∷ s) (y ∷ t) h l a b =
    rw (byte_pair x y (le w s) (le w t) (a 0) (b 0), and_assoc (eqb x y) (eqb (le w s) (le w t)) (same (drop w s) (drop w t)))
    (ap (λ (r : Bool). eqb x y && r) (same_word w s t (omega arith) (omega arith) (λ i. a (suc i)) (λ i. b (suc i))))

bytes_take : (n : ℕ) (s : List ℕ) → Bytes s → Bytes (take n s)
bytes_take zero s b i = omega arith
bytes_take (suc n) [] b i = omega arith
bytes_take (suc n) (x ∷ s) b zero = b 0
bytes_take (suc n) (x ∷ s) b (suc i) = bytes_take n s (λ j. b (suc j)) i

pub bytes_drop : (n : ℕ) (s : List ℕ) → Bytes s → Bytes (drop n s)
bytes_drop n s b i = rw get_or-drop (b (n + i))

pub drop-take : (w n : ℕ) (s : List ℕ) → drop w (take (w + n) s) ≡ take n (drop w s)
drop-take zero n s = rw zero-add
drop-take (suc w) n [] = rw (suc-add, take-nil)
drop-take (suc w) n (x ∷ s) = rw suc-add (drop-take w n s)

-- two places have come to byte d of n: what is left gives the whole
pub record Same (n : ℕ) (a : List ℕ) (p : ℕ) (b : List ℕ) (q d : ℕ) : Type 0 where
  pub inside : d ≤ n
  pub rest : same (take (n - d) (drop (p + d) a)) (take (n - d) (drop (q + d) b)) ≡ same (take n (drop p a)) (take n (drop q b))

pub same_start : (n : ℕ) (a : List ℕ) (p : ℕ) (b : List ℕ) (q : ℕ) → Same n a p b q 0
same_start n a p b q = let e : n - 0 ≡ n = omega arith in record { inside = omega arith; rest = rw (add-zero p, add-zero q, e) }

module _ {n : ℕ} {a b : List ℕ} {p q d : ℕ} (l : Same n a p b q d) (h : p + n ≤ length a) (m : q + n ≤ length b) where
  pub same-done : n ≤ d → true ≡ same (take n (drop p a)) (take n (drop q b))
  unfolding same
  same-done k = let e : n - d ≡ 0 = omega arith in rw e at l.rest

  -- w bytes more, as a test tells them
  module _ (w : ℕ) (k : d + w ≤ n) (test : Bool)
      (step : same (take (w + (n - (d + w))) (drop (p + d) a)) (take (w + (n - (d + w))) (drop (q + d) b))
      ≡ (test && same (take (n - (d + w)) (drop (p + d + w) a)) (take (n - (d + w)) (drop (q + d + w) b)))) where
    whole : (test && same (take (n - (d + w)) (drop (p + (d + w)) a)) (take (n - (d + w)) (drop (q + (d + w)) b)))
        ≡ same (take n (drop p a)) (take n (drop q b))
    whole =
        let e : n - d ≡ w + (n - (d + w)) = omega arith in
        let x : p + d + w ≡ p + (d + w) = omega arith in
        let y : q + d + w ≡ q + (d + w) = omega arith in
        rw (x, y) at (sym step ∙ rw e at l.rest)

    on : test ≡ true → Same n a p b q (d + w)
    on e = record { inside = k; rest = rw e at whole }

    off : test ≡ false → false ≡ same (take n (drop p a)) (take n (drop q b))
    off e = rw e at whole

  -- the next word of w bytes
  module _ (w : ℕ) (k : d + w ≤ n) (f : Bytes a) (g : Bytes b) where
    word : same (take (w + (n - (d + w))) (drop (p + d) a)) (take (w + (n - (d + w))) (drop (q + d) b))
        ≡ (eqb (le w (drop (p + d) a)) (le w (drop (q + d) b)) && same (take (n - (d + w)) (drop (p + d + w) a)) (take (n - (d + w)) (drop (q + d + w) b)))
    word =
        let r = n - (d + w) in
        let s = take (w + r) (drop (p + d) a) in
        let t = take (w + r) (drop (q + d) b) in
        let x : w ≤ length s = rw (length-take-le (w + r) (drop (p + d) a) (rw length-drop (omega arith))) (omega arith) in
        let y : w ≤ length t = rw (length-take-le (w + r) (drop (q + d) b) (rw length-drop (omega arith))) (omega arith) in
        same_word w s t x y (bytes_take (w + r) (drop (p + d) a) (bytes_drop (p + d) a f)) (bytes_take (w + r) (drop (q + d) b) (bytes_drop (q + d) b g))
        ∙ rw (
          le-take w (w + r) (drop (p + d) a) (omega arith),
          le-take w (w + r) (drop (q + d) b) (omega arith),
          drop-take w r (drop (p + d) a),
          drop-take w r (drop (q + d) b),
          drop-drop w (p + d) a,
          drop-drop w (q + d) b,
        )

    pub same_more_word : le w (drop (p + d) a) ≡ le w (drop (q + d) b) → Same n a p b q (d + w)
    same_more_word e = on w k _ word (eq-eqb _ _ e)

    pub same_stop_word : (le w (drop (p + d) a) ≡ le w (drop (q + d) b) → ⊥) → false ≡ same (take n (drop p a)) (take n (drop q b))
    same_stop_word e = off w k _ word (ne_eqb _ _ e)
