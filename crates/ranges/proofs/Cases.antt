-- Two tests that imply one another; 1 or 0 by a test; a number before a place, there, or after it.
use Rattle.std.proofs.Common.{◌≡◌, ℕ, suc, ◌-◌, ◌<◌, ◌≤◌, Bool, true, false, cond, sym, refl, arith}
use native.Mathlib.Decide.{ℕ_discrete, dec_lt}

pub both : (a b : Bool) → (a ≡ true → b ≡ true) → (b ≡ true → a ≡ true) → a ≡ b
both true b f g = sym (f refl)
both false true f g = g refl
both false false f g = refl

pub one_or_none : (b : Bool) {r : ℕ} → (b ≡ true → r ≡ 1) → (b ≡ false → r ≡ 0) → r ≡ cond b 1 0
one_or_none true f g = f refl
one_or_none false f g = g refl

pub sides : {A : Type 0} (place i : ℕ) → (i < place → A) → (i ≡ place → A) → ((j : ℕ) → place ≤ j → i ≡ suc j → A) → A
sides place i f g h =
    elim (dec_lt i place) [
      | yes l ↦ f l
      | no l ↦ elim (ℕ_discrete i place) [
        | yes e ↦ g e
        | no d ↦ h (i - 1) (omega arith) (omega arith)
      ]
    ]
