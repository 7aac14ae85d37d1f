-- First faces that all differ, and one more that differs from them.
use Prim.Native.Nat.{ℕ, suc, ◌+◌, ◌≤◌, ◌<◌}
use mathlib.Core.Path.{◌≡◌, sym, ◌∙◌}
use mathlib.Core.List.{List}
use native.Mathlib.Omega.{arith}
use lib.ListN.{get_or}
use Rattle.ranges.specs.Tables.{Placed}
use Rattle.ranges.proofs.Cases.{sides}

module _ {x : ℕ} {xs ys : List ℕ} {n place : ℕ} (p : Placed x xs ys n place) (h : place ≤ n) (other : (j : ℕ) → j < n → get_or xs j 0 ≡ x → ⊥) where
  -- what an entry after the place was
  after : {j q : ℕ} → j ≡ suc q → place ≤ q → q < n → get_or ys j 0 ≡ get_or xs q 0
  after f c l = rw f (p.after _ c l)

  -- no other entry is the new one
  not_new : (j : ℕ) → j < n + 1 → get_or ys j 0 ≡ x → j ≡ place
  not_new j l e =
      sides place j (λ c. absurd (other j (omega arith) (sym (p.before j c) ∙ e))) (λ c. c)
      (λ q c f. absurd (other q (omega arith) (sym (after f c (omega arith)) ∙ e)))

  pub placed-distinct : ((i j : ℕ) → i < n → j < n → get_or xs i 0 ≡ get_or xs j 0 → i ≡ j)
      → (i j : ℕ) → i < n + 1 → j < n + 1 → get_or ys i 0 ≡ get_or ys j 0 → i ≡ j
  placed-distinct differ i j l m e =
      sides place i
      (λ a. sides place j (λ c. differ i j (omega arith) (omega arith) (sym (p.before i a) ∙ e ∙ p.before j c))
      (λ c. not_new i l (e ∙ rw c p.here) ∙ sym c)
      (λ q c f. absurd (let s = differ i q (omega arith) (omega arith) (sym (p.before i a) ∙ e ∙ after f c (omega arith)) in omega arith)))
      (λ a. a ∙ sym (not_new j m (sym e ∙ rw a p.here)))
      (λ o a b. sides place j
      (λ c. absurd (let s = differ o j (omega arith) (omega arith) (sym (after b a (omega arith)) ∙ e ∙ p.before j c) in omega arith))
      (λ c. not_new i l (e ∙ rw c p.here) ∙ sym c)
      (λ q c f. let s = differ o q (omega arith) (omega arith) (sym (after b a (omega arith)) ∙ e ∙ after f c (omega arith)) in omega arith))
