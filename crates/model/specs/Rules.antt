-- How document 01 judges. A rule is its number and a test; the first rule whose test fails is the answer; the lowest node comes first.
use Rattle.std.specs.Prelude.{ℕ, zero, suc, Bool, cond, List, [], ◌∷◌}
use Rattle.model.specs.declared.Rejection.{Rejection}

infix 68 ◌unless◌
infixr 20 ◌then◌
infix 15 ◌gives◌
infixl 15 ◌into◌
infixl 25 ◌at_entry◌
-- a refusal: its number and its node; the place of an entry in the connectivity, from 1, is for 34 to 37 alone, the element for 45 alone
abbrev pub rejection_at : ℕ → ℕ → ℕ → Rejection
rejection_at rule node entry = record { rule = rule; node = node; entry = entry; element = 0 }

abbrev pub rejection : ℕ → ℕ → Rejection
rejection rule node = rejection_at rule node 0

abbrev pub repetition : ℕ → ℕ → Rejection
repetition node element = record { rule = 45; node = node; entry = 0; element = element }

-- what a call tells: a refusal, or its values
pub data Answer (A : Type 0) : Type 0 where
  rejected : Rejection → Answer A
  answer : A → Answer A

-- a check has no value: it refuses or passes
abbrev pub Check : Type 0
Check = Answer (Unit {0})

abbrev pub passed : Check
passed = answer tt

-- one check, then the next
unfoldable pub ◌then◌ : {A : Type 0} → Check → Answer A → Answer A
(rejected r) then s = rejected r
(answer x) then s = s

-- a check, and the value where it passes
unfoldable pub ◌gives◌ : {A : Type 0} → Check → A → Answer A
c gives a = c then answer a

-- an answer's value handed on
unfoldable pub ◌into◌ : {A B : Type 0} → Answer A → (A → Answer B) → Answer B
(rejected r) into f = rejected r
(answer x) into f = f x

-- `7 unless t`: rule 7 is given unless t holds
pub data Rule : Type 0 where
  ◌unless◌ : ℕ → Bool → Rule

-- at a node the first rule of a list whose test fails; lists are ascending
unfoldable pub check : ℕ → List Rule → Check
check node [] = passed
check node ((rule unless holds) ∷ rest) = let later = check node rest in cond holds later (rejected (rejection rule node))

-- the check of an entry of the connectivity: its refusal tells the place of the entry
unfoldable pub ◌at_entry◌ : Check → ℕ → Check
(rejected r) at_entry place = rejected (rejection_at r.rule r.node place)
(answer x) at_entry place = answer x

-- the lowest node, or entry, first: k of them from i on
unfoldable pub check_from : (ℕ → Check) → ℕ → ℕ → Check
check_from f zero i = passed
check_from f (suc k) i = let rest = check_from f k (suc i) in f i then rest

-- Every refusal leaves lent memory unchanged: what a call leaves, where a success would leave new.
unfoldable pub leaves : {A B : Type 0} → Answer A → List B → List B → List B
leaves (rejected r) out new = out
leaves (answer x) out new = new
