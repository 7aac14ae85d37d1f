-- The arms of a match on a number: what is tried for each number holds in the last arm too; rows of digits, one an arm.
use Prim.Native.Nat.{ℕ, ◌*◌, ◌/◌, ◌%◌, ◌^◌, ◌<◌}
use mathlib.Core.Path.{◌≡◌, refl}
use mathlib.Core.Bool.{Bool, true, false, ◌||◌}
use mathlib.Core.List.{List, [], ◌∷◌}
use native.Mathlib.Omega.{arith}
use lib.Dec.{eqb}
use borrow.Author.Tests.{ne_eqb, eqb-true}
use Rattle.model.specs.Lists.{every_from, among}
use Rattle.model.proofs.Walks.{every_at}
use Rattle.labels.specs.Cells.{Digits}

-- what holds of each of the first n numbers holds of this one
pub each : (p : ℕ → Bool) (n : ℕ) → every_from p n 0 ≡ true → (k : ℕ) → k < n → p k ≡ true
each p n e k h = every_at p n 0 k e (omega arith) (omega arith)

-- none of the arms before: the keys of these, the last first
abbrev pub Beyond : List ℕ → ℕ → Type 0
Beyond [] k = Unit {0}
Beyond (x ∷ keys) k = Beyond keys k × (k ≡ x → ⊥)

not-among : (keys : List ℕ) (k : ℕ) → Beyond keys k → among k keys ≡ false
unfolding among
not-among [] k a = refl
not-among (x ∷ keys) k a = rw (ne_eqb k x a.1) (not-among keys k a.0)

pub last_of : (keys : List ℕ) (p : ℕ → Bool) (n : ℕ) {k : ℕ} → every_from (λ (i : ℕ). among i keys || p i) n 0 ≡ true → k < n → Beyond keys k → p k ≡ true
last_of keys p n {k} e h a = let t = each (λ (i : ℕ). among i keys || p i) n e k h in rw (not-among keys k a) at t

-- a row of digits, held against its values one by one
abbrev pub is_row : (ℕ → ℕ) → ℕ → ℕ → Bool
is_row f n r = every_from (λ (k : ℕ). eqb (r / 2 ^ (4 * k) % 16) (f k)) n 0

row_is : (f : ℕ → ℕ) (n r : ℕ) → is_row f n r ≡ true → Digits f n r
row_is f n r e = record { at = λ k h. eqb-true _ _ (each (λ (i : ℕ). eqb (r / 2 ^ (4 * i) % 16) (f i)) n e k h) }

pub row_of : (f : ℕ → ℕ → ℕ) (n a r : ℕ) {above : ℕ} → is_row (f a) n r ≡ true → above ≡ a → Digits (f above) n r
row_of f n a r e q = rw q (row_is (f a) n r e)

pub row-rest : (f : ℕ → ℕ → ℕ) (n r : ℕ) (keys : List ℕ) {above : ℕ} → every_from (λ (a : ℕ). among a keys || is_row (f a) n r) 16 0 ≡ true → above < 16
    → Beyond keys above
    → Digits (f above) n r
row-rest f n r keys {above} e h a = row_is (f above) n r (last_of keys (λ (i : ℕ). is_row (f i) n r) 16 e h a)
