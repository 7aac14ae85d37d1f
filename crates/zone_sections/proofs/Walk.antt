-- Walks over the numbers where a test holds: the list from its first number on, and the count that a loop makes.
use Prim.Native.Nat.{ℕ, zero, suc, ◌+◌, ◌-◌, ◌≤◌, ◌<◌}
use mathlib.Core.Path.{◌≡◌, refl}
use mathlib.Core.Bool.{Bool, true, false, cond}
use mathlib.Core.List.{◌∷◌}
use native.Mathlib.Omega.{arith}
use lib.ListN.{length}
use Rattle.model.specs.Lists.{count_from, list_from, seek_from}
use Rattle.model.proofs.Walks.{count_from_step, count_from-end}

module _ (p : ℕ → Bool) where
  -- where the search finds one, the list is that one and those after it
  pub list_found : (k i : ℕ) → seek_from p k i < i + k → list_from p k i ≡ seek_from p k i ∷ list_from p (i + k - suc (seek_from p k i)) (suc (seek_from p k i))
  unfolding list_from seek_from
  list_found zero i h = absurd (omega arith)
  list_found (suc k) i h = by_test (p i) refl h (λ l. list_found k (suc i) l)
    where
      s : ℕ
      s = seek_from p k (suc i)

      by_test : (t : Bool) → p i ≡ t → cond t i s < i + suc k → (s < suc i + k → list_from p k (suc i) ≡ s ∷ list_from p (suc i + k - suc s) (suc s))
          → cond t (i ∷ list_from p k (suc i)) (list_from p k (suc i)) ≡ cond t i s ∷ list_from p (i + suc k - suc (cond t i s)) (suc (cond t i s))
      by_test true e l later = let q : i + suc k - suc i ≡ k = omega arith in rw q
      by_test false e l later =
          let q : i + suc k - suc s ≡ suc i + k - suc s = omega arith in
          rw q (later (omega arith))

  -- where it finds none, the list is empty
  pub list_none : (k i : ℕ) → i + k ≤ seek_from p k i → length (list_from p k i) ≡ 0
  unfolding list_from seek_from
  list_none zero i h = refl
  list_none (suc k) i h = by_test (p i) h (λ l. list_none k (suc i) l)
    where
      by_test : (t : Bool) → i + suc k ≤ cond t i (seek_from p k (suc i)) → (suc i + k ≤ seek_from p k (suc i) → length (list_from p k (suc i)) ≡ 0)
          → length (cond t (i ∷ list_from p k (suc i)) (list_from p k (suc i))) ≡ 0
      by_test true l later = absurd (omega arith)
      by_test false l later = later (omega arith)

-- a loop has counted the numbers before i; with those from i on they are the whole
pub record Counted (p : ℕ → Bool) (n i count whole : ℕ) : Type 0 where
  pub inside : i ≤ n
  pub few : count ≤ i
  pub rest : count + count_from p (n - i) i ≡ whole

module _ {p : ℕ → Bool} {n i count whole : ℕ} (c : Counted p n i count whole) where
  pub count-one : i < n → p i ≡ true → Counted p n (i + 1) (count + 1) whole
  count-one h e =
      let r = rw (count_from_step p n i h, e) at c.rest in
      record { inside = omega arith; few = omega (arith, c.few); rest = omega arith }

  pub count_none : i < n → p i ≡ false → Counted p n (i + 1) count whole
  count_none h e = record { inside = omega arith; few = omega (arith, c.few); rest = rw (count_from_step p n i h, e) at c.rest }

  pub count_all : n ≤ i → count ≡ whole
  count_all h = let r = rw (count_from-end p n i h) at c.rest in omega arith
