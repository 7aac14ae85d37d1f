-- The first number that does not meet a test.
use Prim.Native.Nat.{ℕ, zero, suc, ◌+◌, ◌-◌, ◌≤◌, ◌<◌}
use mathlib.Core.Path.{◌≡◌, refl, sym, ◌∙◌}
use mathlib.Core.Bool.{Bool, true, false, cond, ◌&&◌}
use native.Mathlib.Omega.{arith}
use native.Mathlib.Decide.{ℕ_discrete}
use Rattle.std.proofs.Common.{Option, None, Some}
use Rattle.model.proofs.Logic.{and_first, and_second}
use Rattle.section_data.specs.Passing.{Passed}
use Rattle.section_data.proofs.Passing.{passed_none, passed_more, passed_on}
use Rattle.references.specs.Arrays.{FirstFailing, Failing}

pub passed-two : {p : ℕ → Bool} {n k j : ℕ} → Passed p n k j → 1 < n - j → (p j && p (j + 1)) ≡ true → Passed p n k (j + 2)
passed-two {p} {j = j} s h e =
    let q : j + 1 + 1 ≡ j + 2 = omega arith in
    rw q at (passed_more (passed_more s (omega arith) (and_first (p j) _ e)) (omega arith) (and_second (p j) _ e))

-- the first number that does not meet the test
module _ {p : ℕ → Bool} {n j : ℕ} (s : Passed p n 0 j) where
  pub failing_here : j < n → p j ≡ false → FirstFailing p n (Some j)
  failing_here h e = (s, h, e)

  pub failing_none : j ≡ n → FirstFailing p n None
  failing_none e = rw e at s

  -- of two
  pub failing_two : {r : ℕ} → j + 1 < n → (p j && p (j + 1)) ≡ false → r ≡ cond (p j) (j + 1) j → FirstFailing p n (Some r)
  failing_two {r} h e f = by_test (p j) refl e f
    where
      by_test : (c : Bool) → p j ≡ c → (c && p (j + 1)) ≡ false → r ≡ cond c (j + 1) j → FirstFailing p n (Some r)
      by_test true q g o = rw o (passed_more s (omega arith) q, h, g)
      by_test false q g o = rw o (s, omega arith, q)

-- the test may be another that agrees with it
module _ {p q : ℕ → Bool} {n : ℕ} (same : (k : ℕ) → k < n → p k ≡ q k) where
  passed_same : {j : ℕ} → Passed p n 0 j → Passed q n 0 j
  passed_same s = record { from = s.from; to = s.to; each = λ i x y. sym (same i (omega (arith, s.to))) ∙ s.each i x y }

  pub failing_same : (r : Option ℕ) → FirstFailing p n r → FirstFailing q n r
  failing_same None f = passed_same f
  failing_same (Some j) f = (passed_same f.0, f.1, sym (same j f.1) ∙ f.2)

-- numbers in two parts, of which the second is looked at where each of the first meets the test
pub failing_start : (p : ℕ → Bool) (n : ℕ) → Failing p n 0 0 0
failing_start p n = record { none = λ e. passed_none p n 0 (omega arith); before = λ h. absurd (omega arith); fails = λ h. absurd (omega arith) }

pub failing_on : {p : ℕ → Bool} {n k m j place later : ℕ} → Failing p n k m place → m ≤ j → (0 < place → later ≡ place) → (place ≡ 0 → Failing p n m j later)
    → Failing p n k j later
failing_on {place = zero} f l kept on =
    let u = on refl in
    record {
      none = λ e. passed_on (f.none refl) (u.none e);
      before = λ h. (passed_on (f.none refl) (u.before h).0, (u.before h).1);
      fails = u.fails;
    }
failing_on {place = suc x} f l kept on =
    let e = kept (omega arith) in
    let w = f.before (omega arith) in
    rw e (record { none = λ z. absurd (omega arith); before = λ h. (w.0, omega (arith, w.1)); fails = f.fails })

-- the place of a number that does not meet the test; none up to the end
pub failing_place : {p : ℕ → Bool} {n k j m : ℕ} → Passed p n k j → j < m → p j ≡ false → Failing p n k m (j + 1)
failing_place {j = j} s h e =
    let q : j + 1 - 1 ≡ j = omega arith in
    record { none = λ z. absurd (omega arith); before = λ x. (rw q s, omega arith); fails = λ x. rw q e }

pub failing_no_place : {p : ℕ → Bool} {n k j m : ℕ} → Passed p n k j → j ≡ m → Failing p n k m 0
failing_no_place s e = record { none = λ z. rw (← e) s; before = λ x. absurd (omega arith); fails = λ x. absurd (omega arith) }

-- a number that meets the test, and numbers after it of which two tests agree
pub failing_behind : {p q : ℕ → Bool} {n k m place : ℕ} → k < m → m ≤ n → q k ≡ true → ((i : ℕ) → k < i → i < m → p i ≡ q i) → Failing p n (k + 1) m place
    → Failing q n k m place
failing_behind {p} {q} {n} {k} {m} {place} h l first same f =
    record {
      none = λ e. wider (f.none e) (omega arith);
      before = λ x. (wider (f.before x).0 (omega (arith, (f.before x).1)), (f.before x).1);
      fails = λ x. let w = f.before x in sym (same (place - 1) (omega (arith, w.0.from)) (omega (arith, w.1, x))) ∙ f.fails x;
    }
  where
    wider : {j : ℕ} → Passed p n (k + 1) j → j ≤ m → Passed q n k j
    wider s o =
        record {
          from = omega (arith, s.from);
          to = s.to;
          each = λ i x y. elim (ℕ_discrete i k) [
            | yes e ↦ rw e first
            | no d ↦ sym (same i (omega (arith, d)) (omega arith)) ∙ s.each i (omega (arith, d)) y
          ];
        }
