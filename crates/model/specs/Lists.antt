-- Walks over node numbers and entries, and tables. A walk takes "k of them, from i on", so that a loop's invariant reads "the whole is the rest from here".
use Rattle.std.specs.Prelude.{ℕ, zero, suc, ◌+◌, Bool, true, false, cond, ◌&&◌, ◌||◌, List, [], ◌∷◌, ◌++◌, length, take, drop, eqb}

infixr 25 ◌⊃◌
infix 68 ◌has◌
-- where the first holds, so does the second
unfoldable pub ◌⊃◌ : Bool → Bool → Bool
true ⊃ b = b
false ⊃ b = true

-- every one of the k numbers from i on
unfoldable pub every_from : (ℕ → Bool) → ℕ → ℕ → Bool
every_from p zero i = true
every_from p (suc k) i = let rest = every_from p k (suc i) in p i && rest

-- some one of them
unfoldable pub some_from : (ℕ → Bool) → ℕ → ℕ → Bool
some_from p zero i = false
some_from p (suc k) i = let rest = some_from p k (suc i) in p i || rest

-- how many of them
unfoldable pub count_from : (ℕ → Bool) → ℕ → ℕ → ℕ
count_from p zero i = 0
count_from p (suc k) i = let rest = count_from p k (suc i) in cond (p i) (suc rest) rest

-- which of them, in ascending order
unfoldable pub list_from : (ℕ → Bool) → ℕ → ℕ → List ℕ
list_from p zero i = []
list_from p (suc k) i = let rest = list_from p k (suc i) in cond (p i) (i ∷ rest) rest

-- the first of them; i + k where there is none
unfoldable pub seek_from : (ℕ → Bool) → ℕ → ℕ → ℕ
seek_from p zero i = i
seek_from p (suc k) i = let rest = seek_from p k (suc i) in cond (p i) i rest

-- the sum over the numbers below i
unfoldable pub sum_before : (ℕ → ℕ) → ℕ → ℕ
sum_before f zero = 0
sum_before f (suc i) = sum_before f i + f i

-- is x in the list
unfoldable pub among : ℕ → List ℕ → Bool
among x [] = false
among x (y ∷ ys) = let rest = among x ys in eqb x y || rest

-- a table: the value of the first row with that key, else the default
pub data Row (A : Type 0) : Type 0 where
  ◌has◌ : ℕ → A → Row A

unfoldable pub row : {A : Type 0} → ℕ → A → List (Row A) → A
row key default [] = default
row key default ((k has v) ∷ rest) = let later = row key default rest in cond (eqb key k) v later

-- a buffer with a list written in front, the rest as it was
unfoldable pub over : {A : Type 0} → List A → List A → List A
over out new = new ++ drop (length new) out

-- the same from place k on
unfoldable pub over_at : {A : Type 0} → ℕ → List A → List A → List A
over_at k out new = take k out ++ over (drop k out) new
