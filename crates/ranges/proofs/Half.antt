-- Where each number of a kind has a number of its own that is not of the kind, at most half of all numbers are of it.
use Rattle.std.proofs.Common.{◌≡◌, ℕ, zero, suc, ◌+◌, ◌-◌, ◌*◌, ◌<◌, ◌≤◌, Bool, true, false, cond, not, ◌&&◌, ltb, refl, ◌∙◌, add-zero, suc-add, zero-add, add-one, arith, ltb-true, le-ltb, lt-ltb}
use native.Mathlib.Decide.{ℕ_discrete}
use Rattle.model.specs.Lists.{count_from}
use Rattle.model.proofs.Logic.{untrue, and_first, and_second, and_both}
use Rattle.model.proofs.Walks.{count_both, count_from_step}

-- m numbers, then k more
count_split : (p : ℕ → Bool) (m k i : ℕ) → count_from p (m + k) i ≡ count_from p m i + count_from p k (i + m)
unfolding count_from
count_split p zero k i = rw (zero-add k, add-zero i) (omega arith)
count_split p (suc m) k i = let e : i + suc m ≡ suc i + m = omega arith in rw (suc-add, e) (by_test (p i) _ _ _ (count_split p m k (suc i)))
  where
    by_test : (t : Bool) (x y d : ℕ) → x ≡ y + d → cond t (suc x) x ≡ cond t (suc y) y + d
    by_test true x y d h = omega arith
    by_test false x y d h = h

pub count_next : (p : ℕ → Bool) (i : ℕ) → count_from p (i + 1) 0 ≡ count_from p i 0 + cond (p i) 1 0
unfolding count_from
count_next p i = count_split p i 1 0 ∙ rw (zero-add i)

-- a number of the kind is not counted before it
pub count_room : (p : ℕ → Bool) (i n : ℕ) → i < n → p i ≡ true → count_from p i 0 < count_from p n 0
count_room p i n h e =
    let q : i + (n - i) ≡ n = omega arith in
    omega (arith, rw (q, zero-add i) at (count_split p i (n - i) 0), rw e at (count_from_step p n i h))

-- where the test holds of more numbers, more are counted: of x besides
module _ (p q : ℕ → Bool) (f : (j : ℕ) → p j ≡ true → q j ≡ true) where
  here : (i d x y : ℕ) → x + d ≤ y → cond (p i) (suc x) x + d ≤ cond (q i) (suc y) y
  here i d x y h = by_tests (p i) (q i) (f i)
    where
      by_tests : (a b : Bool) → (a ≡ true → b ≡ true) → cond a (suc x) x + d ≤ cond b (suc y) y
      by_tests true true g = omega arith
      by_tests true false g = untrue (g refl)
      by_tests false true g = omega arith
      by_tests false false g = h

  count-le : (k i : ℕ) → count_from p k i + 0 ≤ count_from q k i
  unfolding count_from
  count-le zero i = omega arith
  count-le (suc k) i = here i 0 _ _ (count-le k (suc i))

  count_lt : (k i x : ℕ) → p x ≡ false → q x ≡ true → i ≤ x → x < i + k → count_from p k i + 1 ≤ count_from q k i
  unfolding count_from
  count_lt zero i x e g l h = absurd (omega arith)
  count_lt (suc k) i x e g l h =
      elim (ℕ_discrete i x) [
        | yes y ↦ rw (y, e, g) (omega (arith, count-le k (suc x)))
        | no d ↦ here i 1 _ _ (count_lt k (suc i) x e g (omega (arith, d)) (omega arith))
      ]

-- each s of E has c s below n, which is not of E and leads back to s
module _ (E : ℕ → Bool) (c up : ℕ → ℕ) (n : ℕ) (own : (s : ℕ) → s < n → E s ≡ true → (c s < n) × (up (c s) ≡ s) × (E (c s) ≡ false)) where
  -- j is not of E, and leads back to a number below k
  abbrev leads : ℕ → ℕ → Bool
  leads k j = not (E j) && ltb (up j) k

  leads_on : (k j : ℕ) → leads k j ≡ true → leads (k + 1) j ≡ true
  leads_on k j e =
      let l = ltb-true (up j) k (and_second (not (E j)) _ e) in
      and_both _ _ (and_first (not (E j)) (ltb (up j) k) e) (lt-ltb (up j) (k + 1) (omega arith))

  step : (k : ℕ) → k < n → count_from E k 0 ≤ count_from (leads k) n 0 → count_from E (k + 1) 0 ≤ count_from (leads (k + 1)) n 0
  step k h r = rw (count_next E k) (by_test (E k) refl)
    where
      by_test : (t : Bool) → E k ≡ t → count_from E k 0 + cond t 1 0 ≤ count_from (leads (k + 1)) n 0
      by_test true e =
          let o = own k h e in
          omega (
            arith,
            count_lt (leads k) (leads (k + 1)) (leads_on k) n 0 (c k)
                (rw (o.2, o.1) (le-ltb k k (omega arith))) (rw (o.2, o.1) (lt-ltb k (k + 1) (omega arith))) (omega arith) (omega arith),
          )
      by_test false e = omega (arith, count-le (leads k) (leads (k + 1)) (leads_on k) n 0)

  counted : (k : ℕ) → k ≤ n → count_from E k 0 ≤ count_from (leads k) n 0
  unfolding count_from
  counted zero h = omega arith
  counted (suc k) h = rw (add-one k) at (step k h (counted k (omega arith)))

  pub half : 2 * count_from E n 0 ≤ n
  half =
      let l = count-le (leads n) (λ j. not (E j)) (λ j e. and_first (not (E j)) _ e) n 0 in
      omega (arith, counted n (omega arith), count_both E (λ j. not (E j)) n 0 (λ j. refl))
