-- The list of the numbers where a test holds: how long it is, that each of its numbers is one, in ascending order, and that each one is in it.
use Prim.Native.Nat.{ℕ, zero, suc, ◌+◌, ◌≤◌, ◌<◌}
use mathlib.Core.Path.{◌≡◌, refl, sym, subst, ap}
use mathlib.Core.Bool.{Bool, true, false, cond}
use mathlib.Core.List.{List, ◌∷◌}
use native.Mathlib.Omega.{arith}
use native.Mathlib.Decide.{ℕ_discrete}
use lib.ListN.{length, get_or}
use Rattle.model.specs.Lists.{count_from, list_from}
use Rattle.model.proofs.Logic.{untrue}

module _ (p : ℕ → Bool) where
  pub list_length : (k i : ℕ) → length (list_from p k i) ≡ count_from p k i
  unfolding list_from count_from
  list_length zero i = refl
  list_length (suc k) i = by_test (p i) (list_length k (suc i))
    where
      by_test : (t : Bool) → length (list_from p k (suc i)) ≡ count_from p k (suc i)
          → length (cond t (i ∷ list_from p k (suc i)) (list_from p k (suc i))) ≡ cond t (suc (count_from p k (suc i))) (count_from p k (suc i))
      by_test true h = ap suc h
      by_test false h = h

  -- x is one of the k numbers from i on where the test holds
  pub record Within (k i x : ℕ) : Type 0 where
    pub from : i ≤ x
    pub to : x < i + k
    pub holds : p x ≡ true

  wider : {k i x : ℕ} → Within k (suc i) x → Within (suc k) i x
  wider w = record { from = omega (arith, w.from); to = omega (arith, w.to); holds = w.holds }

  -- each number of the list is one
  member_step : (k i : ℕ) (rest : List ℕ) (t : Bool) → p i ≡ t → ((j : ℕ) → j < length rest → Within k (suc i) (get_or rest j 0))
      → (j : ℕ) → j < length (cond t (i ∷ rest) rest) → Within (suc k) i (get_or (cond t (i ∷ rest) rest) j 0)
  member_step k i rest true e later zero h = record { from = omega arith; to = omega arith; holds = e }
  member_step k i rest true e later (suc j) h = wider (later j (omega arith))
  member_step k i rest false e later j h = wider (later j h)

  pub member : (k i j : ℕ) → j < length (list_from p k i) → Within k i (get_or (list_from p k i) j 0)
  unfolding list_from
  member zero i j h = absurd (omega arith)
  member (suc k) i j h = member_step k i (list_from p k (suc i)) (p i) refl (λ m. member k (suc i) m) j h

  -- in ascending order
  rise_step : (i : ℕ) (rest : List ℕ) (t : Bool) → ((j : ℕ) → j < length rest → i < get_or rest j 0)
      → ((a b : ℕ) → a < b → b < length rest → get_or rest a 0 < get_or rest b 0)
      → (a b : ℕ) → a < b → b < length (cond t (i ∷ rest) rest) → get_or (cond t (i ∷ rest) rest) a 0 < get_or (cond t (i ∷ rest) rest) b 0
  rise_step i rest true above later a zero l h = absurd (omega arith)
  rise_step i rest true above later zero (suc b) l h = above b (omega arith)
  rise_step i rest true above later (suc a) (suc b) l h = later a b (omega arith) (omega arith)
  rise_step i rest false above later a b l h = later a b l h

  pub members_rise : (k i a b : ℕ) → a < b → b < length (list_from p k i) → get_or (list_from p k i) a 0 < get_or (list_from p k i) b 0
  unfolding list_from
  members_rise zero i a b l h = absurd (omega arith)
  members_rise (suc k) i a b l h =
      rise_step i (list_from p k (suc i)) (p i) (λ j m. (member k (suc i) j m).from) (λ c d. members_rise k (suc i) c d) a b l h

  -- each one is in the list
  abbrev pub Place : List ℕ → ℕ → Type 0
  Place xs x = (j : ℕ) × (j < length xs) × (get_or xs j 0 ≡ x)

  place_step : (i x : ℕ) (rest : List ℕ) (t : Bool) → Place rest x → Place (cond t (i ∷ rest) rest) x
  place_step i x rest true later = (suc later.0, omega (arith, later.1), later.2)
  place_step i x rest false later = later

  place_here : (i : ℕ) (rest : List ℕ) (t : Bool) → t ≡ true → Place (cond t (i ∷ rest) rest) i
  place_here i rest true e = (0, omega arith, refl)
  place_here i rest false e = untrue e

  pub place : (k i x : ℕ) → Within k i x → Place (list_from p k i) x
  unfolding list_from
  place zero i x w = absurd (omega (arith, w.from, w.to))
  place (suc k) i x w =
      elim (ℕ_discrete i x) [
        | yes q ↦ subst (λ (y : ℕ). Place (cond (p i) (i ∷ list_from p k (suc i)) (list_from p k (suc i))) y) q
            (place_here i (list_from p k (suc i)) (p i) (subst (λ (y : ℕ). p y ≡ true) (sym q) w.holds))
        | no n ↦ place_step i x (list_from p k (suc i)) (p i)
            (place k (suc i) x (record { from = omega (arith, n, w.from); to = omega (arith, w.to); holds = w.holds }))
      ]
