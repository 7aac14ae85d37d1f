-- The placing table and the fixed names as one table of digits, by the parent's role and the child's.
use Rattle.std.specs.Prelude.{ℕ, suc, ◌*◌, ◌/◌, ◌%◌, ◌^◌, ◌<◌, ◌≡◌, cond, []}
use Rattle.model.specs.Bytes.{place_from}
use Rattle.model.specs.Containment.{may_hold, fixed_name, fixed_names}
use Rattle.labels.specs.Padded.{known_names}

-- 0 where the parent may not hold the child; else 1 more than the place of the child's fixed name among the known ones, 1 where it has none
unfoldable pub cell_of : ℕ → ℕ → ℕ
cell_of above below = cond (may_hold above below) (suc (place_from 1 (fixed_name above below [] fixed_names) known_names)) 0

-- the first n values of f are the hexadecimal digits of r, the first one rightmost
pub record Digits (f : ℕ → ℕ) (n r : ℕ) : Type 0 where
  pub at : (k : ℕ) → k < n → r / 2 ^ (4 * k) % 16 ≡ f k
