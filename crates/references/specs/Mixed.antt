-- A MIXED section as two rows of numbers: start offsets o, and a connectivity c in which each element begins with its own type.
use Rattle.std.specs.Prelude.{ℕ, suc, ◌+◌, ◌-◌, ◌<◌, ◌≡◌, Bool, List}
use Rattle.model.specs.Rules.{check, passed}
use Rattle.model.specs.Image.{tree_of, parent}
use Rattle.model.specs.Given.{Sound}
use Rattle.model.specs.Values.{vertex_size, offsets_of, connectivity_of}
use Rattle.model.specs.Elements.{MIXED, element_type_of, fits_length}
use Rattle.model.specs.Corner.{number_at}
use Rattle.rows.specs.declared.Row.{Row}
use Rattle.section_data.specs.Given.{RowOf}
use Rattle.references.specs.Groups.{shape_rules}

-- 38: the element from `start` on and before `end` begins with a type of the fixed list, and 1 + its nodes is end − start
unfoldable pub fits_in : List ℕ → Row → ℕ → ℕ → Bool
fits_in b c start end = fits_length (number_at b c.at c.width start) (end - start)

-- element k, by its start offsets
abbrev pub start_at : List ℕ → Row → ℕ → ℕ
start_at b o k = number_at b o.at o.width k

unfoldable pub fits_at : List ℕ → Row → Row → ℕ → Bool
fits_at b o c k = fits_in b c (start_at b o k) (start_at b o (suc k))

-- what rules 30 to 32 say of n + 1 start offsets
pub record Filled (b : List ℕ) (o c : Row) (n : ℕ) : Type 0 where
  pub count : o.n ≡ n + 1
  pub first : start_at b o 0 ≡ 0
  pub rise : (k : ℕ) → k < n → start_at b o k < start_at b o (suc k)
  pub last : start_at b o n ≡ c.n

-- the rows of a MIXED section that meets rules 29 to 33, and the VertexSize of its zone
pub record MixedRows (b : List ℕ) (s : ℕ) (o c : Row) (limit : ℕ) : Type 0 where
  pub sound : Sound b
  pub mixed : element_type_of (tree_of b) s ≡ MIXED
  pub shaped : check s (shape_rules (tree_of b) s) ≡ passed
  pub offsets : RowOf b (offsets_of (tree_of b) s) o
  pub connectivity : RowOf b (connectivity_of (tree_of b) s) c
  pub vertices : limit ≡ vertex_size (tree_of b) (parent (tree_of b) s) 0
