-- What a check that passed says: every rule of the list holds, at every node of the walk. How a loop over the nodes meets a check. Where two checks are equal.
use Prim.Native.Nat.{ℕ, zero, suc, ◌+◌, ◌-◌, ◌≤◌, ◌<◌}
use mathlib.Core.Path.{◌≡◌, refl, subst, sym, ◌∙◌}
use mathlib.Core.Bool.{Bool, true, false, cond}
use mathlib.Core.List.{List, [], ◌∷◌, ◌++◌}
use native.Mathlib.Omega.{arith}
use native.Mathlib.Decide.{ℕ_discrete}
use native.Mathlib.Numerals.{add-one}
use lib.Dec.{eqb}
use Rattle.model.specs.declared.Rejection.{Rejection}
use Rattle.model.specs.Rules.{Answer, rejected, answer, Check, passed, Rule, ◌unless◌, check, ◌at_entry◌, check_from, ◌then◌, ◌gives◌, ◌into◌}
use Rattle.model.proofs.Logic.{choose}

-- a refusal is no value
pub refused : {A B : Type 0} {r : Rejection} {a : A} → rejected r ≡ answer a → B
refused e = let z : ◌≡◌ {A = ℕ} 0 1 = cc in absurd (omega arith)

-- every test of the list holds: of a written list, a product of equations `test ≡ true`
abbrev pub Hold : List Rule → Type 0
Hold [] = Unit {0}
Hold ((rule unless holds) ∷ rest) = (holds ≡ true) × Hold rest

pub check_pass : (node : ℕ) (rules : List Rule) → check node rules ≡ passed → Hold rules
unfolding check
check_pass node [] e = tt
check_pass node ((rule unless true) ∷ rest) e = (refl, check_pass node rest e)
check_pass node ((rule unless false) ∷ rest) e = refused e

-- the equation of one rule, asked for by its number
abbrev pub Claim : ℕ → List Rule → Type 0
Claim n [] = Unit {0}
Claim n ((rule unless holds) ∷ rest) = cond (eqb n rule) (holds ≡ true) (Claim n rest)

pub claim : (n : ℕ) (rules : List Rule) → Hold rules → Claim n rules
claim n [] h = tt
claim n ((rule unless holds) ∷ rest) h = choose (eqb n rule) h.0 (claim n rest h.1)

-- a rule that holds wherever those before it hold makes no difference
pub row_kept : (node rule : ℕ) (t : Bool) (xs ys : List Rule) → (Hold xs → t ≡ true) → check node (xs ++ (rule unless t ∷ ys)) ≡ check node (xs ++ ys)
unfolding check
row_kept node rule t [] ys f = rw (f tt)
row_kept node rule t ((r unless true) ∷ xs) ys f = row_kept node rule t xs ys (λ h. f (refl, h))
row_kept node rule t ((r unless false) ∷ xs) ys f = refl

module _ {A : Type 0} where
  pub then-first : (c : Check) (s : Answer A) {a : A} → (c then s) ≡ answer a → c ≡ passed
  unfolding ◌then◌
  then-first (rejected r) s e = refused e
  then-first (answer x) s e = refl

  pub then-second : (c : Check) (s : Answer A) {a : A} → (c then s) ≡ answer a → s ≡ answer a
  unfolding ◌then◌
  then-second (rejected r) s e = refused e
  then-second (answer x) s e = e

  -- a check that passes and what follows
  pub then-on : {c : Check} (s : Answer A) → c ≡ passed → (c then s) ≡ s
  unfolding ◌then◌
  then-on s e = rw e

  pub then-off : {c : Check} {r : Rejection} (s : Answer A) → c ≡ rejected r → (c then s) ≡ rejected r
  unfolding ◌then◌
  then-off s e = rw e

  -- checks one after the other
  pub then-then : (c d : Check) (s : Answer A) → ((c then d) then s) ≡ (c then (d then s))
  unfolding ◌then◌
  then-then (rejected r) d s = refl
  then-then (answer x) d s = refl

  pub gives-check : (c : Check) (v : A) {a : A} → (c gives v) ≡ answer a → c ≡ passed
  unfolding ◌gives◌
  gives-check c v e = then-first c (answer v) e

  pub gives-value : (c : Check) (v : A) {a : A} → (c gives v) ≡ answer a → v ≡ a
  unfolding ◌gives◌
  gives-value c v e = let h = then-second c (answer v) e in cc

-- a value that was handed on
pub into-value : {A B : Type 0} (s : Answer A) (f : A → Answer B) {v : B} → (s into f) ≡ answer v → (x : A) × (s ≡ answer x) × (f x ≡ answer v)
unfolding ◌into◌
into-value (rejected r) f e = refused e
into-value (answer x) f e = (x, refl, e)

-- a check of an entry passes where the check does
pub at-entry_pass : (c : Check) (place : ℕ) → (c at_entry place) ≡ passed → c ≡ passed
unfolding ◌at_entry◌
at-entry_pass (rejected r) place e = refused e
at-entry_pass (answer x) place e = refl

pub check_from-at : (f : ℕ → Check) (k i j : ℕ) → check_from f k i ≡ passed → i ≤ j → j < i + k → f j ≡ passed
unfolding check_from
check_from-at f zero i j e l h = absurd (omega arith)
check_from-at f (suc k) i j e l h =
    elim (ℕ_discrete i j) [
      | yes q ↦ subst (λ (n : ℕ). f n ≡ passed) q (then-first (f i) (check_from f k (suc i)) e)
      | no n ↦ check_from-at f k (suc i) j (then-second (f i) (check_from f k (suc i)) e) (omega (arith, n)) (omega arith)
    ]

-- equal where what follows is equal after a pass; two walks, where they agree at each node that the second comes to
pub then_same : (c : Check) {s u : Check} → (c ≡ passed → s ≡ u) → (c then s) ≡ (c then u)
unfolding ◌then◌
then_same (rejected r) f = refl
then_same (answer x) f = f refl

pub check_from-same : (f g : ℕ → Check) (k i : ℕ) → ((j : ℕ) → i ≤ j → j < i + k → ((m : ℕ) → i ≤ m → m < j → g m ≡ passed) → f j ≡ g j)
    → check_from f k i ≡ check_from g k i
unfolding check_from
check_from-same f g zero i h = refl
check_from-same f g (suc k) i h =
    rw (h i (omega arith) (omega arith) (λ m l u. absurd (omega arith)))
    (then_same (g i)
    (λ p.
    check_from-same f g k (suc i)
    (λ j l u before.
    h j (omega arith) (omega arith)
    (λ m v w.
    elim (ℕ_discrete i m) [
      | yes q ↦ subst (λ (n : ℕ). g n ≡ passed) q p
      | no n ↦ before m (omega (arith, n)) w
    ]))))

-- the first that does not pass decides, and where there is none the walk passes
pub check_from-first : (f : ℕ → Check) (k i j : ℕ) {r : Rejection} → i ≤ j → j < i + k → ((m : ℕ) → i ≤ m → m < j → f m ≡ passed) → f j ≡ rejected r
    → check_from f k i ≡ rejected r
unfolding check_from
check_from-first f zero i j l h before e = absurd (omega arith)
check_from-first f (suc k) i j l h before e =
    elim (ℕ_discrete i j) [
      | yes q ↦ then-off (check_from f k (suc i)) (rw q e)
      | no n ↦ then-on (check_from f k (suc i)) (before i (omega arith) (omega (arith, n)))
          ∙ check_from-first f k (suc i) j (omega (arith, n)) (omega arith) (λ m a b. before m (omega arith) b) e
    ]

pub check_from-none : (f : ℕ → Check) (k i : ℕ) → ((m : ℕ) → i ≤ m → m < i + k → f m ≡ passed) → check_from f k i ≡ passed
unfolding check_from
check_from-none f zero i each = refl
check_from-none f (suc k) i each =
    then-on (check_from f k (suc i)) (each i (omega arith) (omega arith)) ∙ check_from-none f k (suc i) (λ m a b. each m (omega arith) (omega arith))

-- a loop over the nodes: one that passes, one that does not, the end
module _ (f : ℕ → Check) (n i : ℕ) where
  check_from_step : i < n → check_from f (n - i) i ≡ (f i then check_from f (n - (i + 1)) (i + 1))
  unfolding check_from
  check_from_step h =
      let e : n - i ≡ suc (n - (i + 1)) = omega arith in
      rw (e, add-one)

  pub check_from-on : i < n → f i ≡ passed → check_from f (n - (i + 1)) (i + 1) ≡ check_from f (n - i) i
  check_from-on h e = sym (check_from_step h ∙ then-on (check_from f (n - (i + 1)) (i + 1)) e)

  pub check_from-off : {r : Rejection} → i < n → f i ≡ rejected r → check_from f (n - i) i ≡ rejected r
  check_from-off h e = check_from_step h ∙ then-off (check_from f (n - (i + 1)) (i + 1)) e

  pub check_from-end : n ≤ i → check_from f (n - i) i ≡ passed
  unfolding check_from
  check_from-end h = let e : n - i ≡ 0 = omega arith in rw e
