-- Rows of numbers in an image: what the functions here are given, and what is searched for.
use Rattle.std.specs.Prelude.{ℕ, suc, ◌+◌, ◌*◌, ◌≤◌, Bool, List, length, T, ltb}
use Rattle.model.specs.Corner.{number_at}
use Rattle.words.specs.Width.{is_width}
use Rattle.rows.specs.declared.Row.{Row}

-- n numbers of 4 or 8 bytes from a place on lie inside the bytes
pub record Numbers (b : List ℕ) (at w n : ℕ) : Type 0 where
  pub wide : T (is_width w)
  pub inside : at + w * n ≤ length b

-- of a row of start offsets: the j-th element ends after entry k
unfoldable pub ends_after_at : List ℕ → Row → ℕ → ℕ → Bool
ends_after_at b r k j = ltb k (number_at b r.at r.width (suc j))
