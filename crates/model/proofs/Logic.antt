-- Tests and their joins.
use Prim.Native.Nat.{ℕ, zero, suc, ◌≤◌, ◌<◌}
use mathlib.Core.Path.{◌≡◌, refl}
use mathlib.Core.Bool.{Bool, true, false, cond, ◌&&◌, ◌||◌}
use mathlib.Core.List.{List, [], ◌∷◌}
use native.Mathlib.Omega.{arith}
use native.Mathlib.Decide.{ℕ_discrete}
use lib.Dec.{leb, eqb}
use mathlib.Core.Logic.{◌⊎◌, inl, inr}
use borrow.Author.Tests.{leb-true, leb-false, le-leb, eqb-true}
use Rattle.model.specs.Lists.{◌⊃◌}
use Rattle.model.specs.Bytes.{same}

pub untrue : {A : Type 0} → false ≡ true → A
untrue e = let z : ◌≡◌ {A = ℕ} 0 1 = cc in absurd (omega arith)

pub and_first : (a b : Bool) → (a && b) ≡ true → a ≡ true
and_first true b e = refl
and_first false b e = e

pub and_second : (a b : Bool) → (a && b) ≡ true → b ≡ true
and_second true b e = e
and_second false b e = untrue e

pub and_both : (a b : Bool) → a ≡ true → b ≡ true → (a && b) ≡ true
and_both a b e f = rw (e, f)

pub and-true : (a : Bool) → (a && true) ≡ a
and-true true = refl
and-true false = refl

pub and-false : (a : Bool) → (a && false) ≡ false
and-false true = refl
and-false false = refl

pub or-false : (a : Bool) → (a || false) ≡ a
or-false true = refl
or-false false = refl

pub or_left : (a b : Bool) → a ≡ true → (a || b) ≡ true
or_left a b e = rw e

pub or_right : (a b : Bool) → b ≡ true → (a || b) ≡ true
or_right true b e = refl
or_right false b e = e

-- what a test rules out
pub when : (a b : Bool) → (a ⊃ b) ≡ true → a ≡ true → b ≡ true
unfolding ◌⊃◌
when true b e h = e
when false b e h = untrue h

-- a test that leads to one of two types
pub choose : {A B : Type 0} (which : Bool) → A → B → cond which A B
choose true x y = x
choose false x y = y

pub or_cases : {A : Type 0} (a b : Bool) → (a || b) ≡ true → (a ≡ true → A) → (b ≡ true → A) → A
or_cases true b e f g = f refl
or_cases false b e f g = g e

pub implied : (a b : Bool) → (a ≡ true → b ≡ true) → (a ⊃ b) ≡ true
unfolding ◌⊃◌
implied true b f = f refl
implied false b f = refl

-- a number between two others, as a test
pub between : (lo x hi : ℕ) → lo ≤ x → x ≤ hi → (leb lo x && leb x hi) ≡ true
between lo x hi l h = and_both _ _ (le-leb lo x l) (le-leb x hi h)

pub inside_or_not : (lo x hi : ℕ) → ((lo ≤ x) × (x ≤ hi)) ⊎ ((lo ≤ x) × (x ≤ hi) → ⊥)
inside_or_not lo x hi = by_tests (leb lo x) refl (leb x hi) refl
  where
    by_tests : (p : Bool) → leb lo x ≡ p → (q : Bool) → leb x hi ≡ q → ((lo ≤ x) × (x ≤ hi)) ⊎ ((lo ≤ x) × (x ≤ hi) → ⊥)
    by_tests true e true g = inl (leb-true lo x e, leb-true x hi g)
    by_tests true e false g = inr (λ i. omega (arith, leb-false x hi g))
    by_tests false e q g = inr (λ i. omega (arith, leb-false lo x e))

pub not_between : (lo x hi : ℕ) → ((lo ≤ x) × (x ≤ hi) → ⊥) → (leb lo x && leb x hi) ≡ false
not_between lo x hi f = by_tests (leb lo x) refl (leb x hi) refl
  where
    by_tests : (p : Bool) → leb lo x ≡ p → (q : Bool) → leb x hi ≡ q → (p && q) ≡ false
    by_tests true e true g = absurd (f (leb-true lo x e, leb-true x hi g))
    by_tests true e false g = refl
    by_tests false e q g = refl

-- of two numbers neither is below the other
pub neither : (a b : ℕ) → (a < b → ⊥) → (b < a → ⊥) → a ≡ b
neither a b f g = omega arith

-- two lists of bytes that are the same
pub same-is : (s u : List ℕ) → same s u ≡ true → s ≡ u
unfolding same
same-is [] [] e = refl
same-is [] (y ∷ u) e = untrue e
same-is (x ∷ s) [] e = untrue e
same-is (x ∷ s) (y ∷ u) e =
    let p = eqb-true x y (and_first (eqb x y) (same s u) e) in
    let q = same-is s u (and_second (eqb x y) (same s u) e) in
    rw (p, q)

-- the last arm of a match: a number that is none of the keys, beside what is known before
abbrev pub NoneOf : Type 0 → List ℕ → ℕ → Type 0
NoneOf A [] x = A
NoneOf A (k ∷ ks) x = NoneOf (A × (x ≡ k → ⊥)) ks x

pub none_known : (A : Type 0) (ks : List ℕ) (x : ℕ) → NoneOf A ks x → A
none_known A [] x h = h
none_known A (k ∷ ks) x h = (none_known (A × (x ≡ k → ⊥)) ks x h).0

-- where the keys are all numbers below n, a number up to n is n
abbrev pub Apart : ℕ → ℕ → Type 0
Apart zero x = Unit {0}
Apart (suc n) x = Apart n x × (x ≡ n → ⊥)

pub last_arm : (n x : ℕ) → Apart n x → x ≤ n → x ≡ n
last_arm zero x a h = omega arith
last_arm (suc n) x a h =
    elim (ℕ_discrete x (suc n)) [
      | yes q ↦ q
      | no z ↦ absurd (a.1 (last_arm n x a.0 (omega (arith, z))))
    ]

-- an arm of a match whose answer is a number of a table, and its bound
pub listed : (f : ℕ → ℕ) (m : ℕ) {x k n : ℕ} → x ≡ k → n ≡ f k → leb n m ≡ true → (n ≡ f x) × (n ≤ m)
listed f m {n = n} e h l = (rw e h, leb-true n m l)
