-- The marks of a face's parents, above the two bits of the signs in its byte: 1 where the first parent is matched with a use, 2 where the second is.
use Rattle.std.specs.Prelude.{ℕ, ◌/◌, ◌%◌, ◌≤◌, ◌<◌, ◌≡◌, Bool, cond, ◌&&◌, ◌||◌, List, eqb, length, get_or}

-- what a use adds: its cell is the first parent or not, the second or not; 0 where no parent can be matched with it
unfoldable pub matched : Bool → Bool → ℕ → ℕ
matched first second marks = cond (first && eqb (marks % 2) 0) 1 (cond (second && eqb (marks / 2 % 2) 0) 2 0)

-- each parent is matched; `single` where there is no second one
unfoldable pub complete : Bool → ℕ → Bool
complete single marks = eqb (marks % 2) 1 && (single || eqb (marks / 2 % 2) 1)

-- the first n bytes without marks, the others as they were
pub record Unmarked (n : ℕ) (bytes after : List ℕ) : Type 0 where
  pub long : length after ≡ length bytes
  pub front : (p : ℕ) → p < n → get_or after p 0 ≡ get_or bytes p 0 % 4
  pub rest : (p : ℕ) → n ≤ p → get_or after p 0 ≡ get_or bytes p 0
