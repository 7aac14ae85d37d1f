-- Handing out: array sizes, for a DataArray_t under coordinates or flow.
use Rattle.std.specs.Prelude.{ℕ, Bool, ◌&&◌, List, [], ◌∷◌, length, get_or, ltb}
use Rattle.model.specs.Rules.{◌unless◌, Answer, check, ◌then◌, ◌gives◌}
use Rattle.model.specs.Image.{Tree, tree_of, parent}
use Rattle.model.specs.Containment.{validated}
use Rattle.model.specs.Values.{sized_array, data_sizes}
use Rattle.model.specs.Validation.{image_check}

unfoldable pub is_sized_array : Tree → ℕ → Bool
is_sized_array t i = ltb i t.count && sized_array t i && validated t i

-- the number of directions and DataSize in each; 0 in a direction that the array lacks, which document 01 leaves free
pub record Sizes : Type 0 where
  pub directions : ℕ
  pub i : ℕ
  pub j : ℕ
  pub k : ℕ

unfoldable pub sizes_of : List ℕ → Sizes
sizes_of sizes = record { directions = length sizes; i = get_or sizes 0 0; j = get_or sizes 1 0; k = get_or sizes 2 0 }

unfoldable pub data_size_answer : List ℕ → ℕ → Answer Sizes
data_size_answer b i =
    (image_check b then check 0 (40 unless is_sized_array (tree_of b) i ∷ [])) gives sizes_of (data_sizes (tree_of b) (parent (tree_of b) i))
