-- The order of lists: it is transitive, a list between two equal ones is equal to them, and the first number that differs decides it.
use Prim.Native.Nat.{ℕ, zero, suc, ◌<◌}
use mathlib.Core.Path.{◌≡◌, refl, ap₂, ◌∙◌}
use mathlib.Core.Bool.{Bool, true, false, cond}
use mathlib.Core.List.{List, [], ◌∷◌}
use mathlib.Core.Logic.{◌⊎◌, inl, inr, ⊎_elim}
use native.Mathlib.Omega.{arith}
use lib.Dec.{eqb, ltb}
use lib.ListN.{length, get_or}
use borrow.Author.Tests.{eq-eqb, ne_eqb, eqb-true, ltb-true, lt-ltb}
use Rattle.model.proofs.Logic.{untrue}
use Rattle.name_order.specs.Order.{lower}

pub lower-same : (l : Bool) (s : List ℕ) → lower l s s ≡ l
unfolding lower
lower-same l [] = refl
lower-same l (x ∷ s) = rw (eq-eqb x x refl) (lower-same l s)

module _ (l : Bool) (x y : ℕ) (s u : List ℕ) where
  -- the first numbers decide, or the others do
  lower_cases : lower l (x ∷ s) (y ∷ u) ≡ true → (x < y) ⊎ ((x ≡ y) × (lower l s u ≡ true))
  unfolding lower
  lower_cases e = by_test (eqb x y) refl e
    where
      by_test : (t : Bool) → eqb x y ≡ t → cond t (lower l s u) (ltb x y) ≡ true → (x < y) ⊎ ((x ≡ y) × (lower l s u ≡ true))
      by_test true g f = inr (eqb-true x y g, f)
      by_test false g f = inl (ltb-true x y f)

  lower-first : x < y → lower l (x ∷ s) (y ∷ u) ≡ true
  unfolding lower
  lower-first h = rw (ne_eqb x y (λ (e : x ≡ y). absurd (omega arith)), lt-ltb x y h)

  pub lower-rest : x ≡ y → lower l (x ∷ s) (y ∷ u) ≡ lower l s u
  unfolding lower
  lower-rest e = rw (eq-eqb x y e)

  pub lower_apart : (x ≡ y → ⊥) → lower l (x ∷ s) (y ∷ u) ≡ ltb x y
  unfolding lower
  lower_apart e = rw (ne_eqb x y e)

module _ (a b c : ℕ) where
  pub lower-on : (s u v : List ℕ) → lower (ltb a b) s u ≡ true → lower (ltb b c) u v ≡ true → lower (ltb a c) s v ≡ true
  unfolding lower
  lower-on [] [] [] e f = lt-ltb a c (omega (arith, ltb-true a b e, ltb-true b c f))
  lower-on [] [] (z ∷ v) e f = f
  lower-on [] (y ∷ u) v e f = untrue e
  lower-on (x ∷ s) [] v e f = untrue e
  lower-on (x ∷ s) (y ∷ u) [] e f = f
  lower-on (x ∷ s) (y ∷ u) (z ∷ v) e f =
      ⊎_elim (λ p. ⊎_elim (λ q. lower-first _ x z s v (omega arith)) (λ q. lower-first _ x z s v (omega arith)) (lower_cases _ y z u v f))
      (λ p. ⊎_elim (λ q. lower-first _ x z s v (omega arith)) (λ q. lower-rest _ x z s v (p.0 ∙ q.0) ∙ lower-on s u v p.1 q.1) (lower_cases _ y z u v f))
      (lower_cases _ x y s u e)

  -- a list between two equal ones
  pub between_equal : (s u : List ℕ) → lower (ltb a b) s u ≡ true → lower (ltb b c) u s ≡ true → (s ≡ u) × (b < c)
  unfolding lower
  between_equal [] [] e f = (refl, ltb-true b c f)
  between_equal [] (y ∷ u) e f = untrue e
  between_equal (x ∷ s) [] e f = untrue e
  between_equal (x ∷ s) (y ∷ u) e f =
      ⊎_elim (λ p. ⊎_elim (λ q. absurd (omega arith)) (λ q. absurd (omega arith)) (lower_cases _ y x u s f))
      (λ p. ⊎_elim (λ q. absurd (omega arith)) (λ q. let w = between_equal s u p.1 q.1 in (ap₂ ◌∷◌ p.0 w.0, w.1)) (lower_cases _ y x u s f))
      (lower_cases _ x y s u e)

-- the first number that differs, at index q
pub lower-at : (l : Bool) (s u : List ℕ) (q : ℕ) → length s ≡ length u → q < length s → (get_or s q 0 ≡ get_or u q 0 → ⊥)
    → ((k : ℕ) → k < q → get_or s k 0 ≡ get_or u k 0) → lower l s u ≡ ltb (get_or s q 0) (get_or u q 0)
lower-at l [] u q e h d b = absurd (omega arith)
lower-at l (x ∷ s) [] q e h d b = absurd (omega arith)
lower-at l (x ∷ s) (y ∷ u) zero e h d b = lower_apart l x y s u d
lower-at l (x ∷ s) (y ∷ u) (suc q) e h d b =
    lower-rest l x y s u (b 0 (omega arith)) ∙ lower-at l s u q (omega arith) (omega arith) d (λ k g. b (suc k) (omega arith))
