-- Numbers one after the other that meet a test; a walk over all of them.
use Prim.Native.Nat.{ℕ, ◌+◌, ◌≤◌, ◌<◌}
use mathlib.Core.Path.{◌≡◌, refl, sym, ◌∙◌}
use mathlib.Core.Bool.{Bool, true, false}
use native.Mathlib.Omega.{arith}
use native.Mathlib.Decide.{ℕ_discrete, dec_lt}
use Rattle.model.specs.Lists.{every_from}
use Rattle.model.proofs.Logic.{untrue}
use Rattle.model.proofs.Walks.{every_same, every_holds, every_at}
use Rattle.section_data.specs.Passing.{Passed}

pub passed_none : (p : ℕ → Bool) (n k : ℕ) → k ≤ n → Passed p n k k
passed_none p n k h = record { from = omega arith; to = h; each = λ i x y. absurd (omega arith) }

module _ {p : ℕ → Bool} {n k j : ℕ} (s : Passed p n k j) where
  pub passed_more : j < n → p j ≡ true → Passed p n k (j + 1)
  passed_more h e =
      record {
        from = omega (arith, s.from);
        to = omega arith;
        each = λ i x y. elim (ℕ_discrete i j) [
          | yes q ↦ rw q e
          | no d ↦ s.each i x (omega arith)
        ];
      }

  pub passed_on : {m : ℕ} → Passed p n j m → Passed p n k m
  passed_on u =
      record {
        from = omega (arith, s.from, u.from);
        to = u.to;
        each = λ i x y. elim (dec_lt i j) [
          | yes l ↦ s.each i x l
          | no l ↦ u.each i (omega arith) y
        ];
      }

-- all of them, or one that does not
pub passed_every : {p : ℕ → Bool} {n k : ℕ} → Passed p n 0 k → n ≤ k → true ≡ every_from p n 0
passed_every {p} {n} s h =
    sym (every_same p (λ (j : ℕ). true) n 0 (λ j x y. s.each j x (omega arith)) ∙ every_holds (λ (j : ℕ). true) (λ j. refl) n 0)

pub failed_every : (p : ℕ → Bool) (n k : ℕ) → k < n → p k ≡ false → false ≡ every_from p n 0
failed_every p n k h e = by_test (every_from p n 0) refl
  where
    by_test : (c : Bool) → every_from p n 0 ≡ c → false ≡ c
    by_test true f = untrue (sym e ∙ every_at p n 0 k f (omega arith) (omega arith))
    by_test false f = refl
