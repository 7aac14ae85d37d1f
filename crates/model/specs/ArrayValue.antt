-- Handing out: array values (document 01: array entries) of any node. Rules 1 to 18, 40, 47, 42, counting from 1.
use Rattle.std.specs.Prelude.{ℕ, ◌-◌, ◌&&◌, List, [], ◌∷◌, leb, ltb, ℤ}
use Rattle.model.specs.Lists.{◌has◌, row}
use Rattle.model.specs.Bytes.{signed}
use Rattle.model.specs.Rules.{◌unless◌, Answer, Check, check, ◌then◌, ◌gives◌}
use Rattle.model.specs.Image.{Tree, tree_of, dimensions, data_type_of, width, number, I4, I8, R4, R8}
use Rattle.model.specs.Records.{product, table_check}
use Rattle.model.specs.Values.{typed}

-- a whole number, or the bits of a single or a double
pub data Value : Type 0 where
  whole : ℤ → Value
  single : ℕ → Value
  double : ℕ → Value

-- value k of node i, counted from 0
unfoldable pub value_at : Tree → ℕ → ℕ → Value
value_at t i k =
    row (data_type_of t i) (whole (signed (width t i) (number t i k))) (R4 has single (number t i k) ∷ R8 has double (number t i k) ∷ [])

unfoldable pub value_check : List ℕ → ℕ → ℕ → Check
value_check b i k =
    table_check b
    then check 0
    (40 unless ltb i (tree_of b).count
    ∷ 47 unless typed (tree_of b) i (I4 ∷ I8 ∷ R4 ∷ R8 ∷ [])
    ∷ 42 unless (leb 1 k && leb k (product (dimensions (tree_of b) i)))
    ∷ [])

unfoldable pub value_answer : List ℕ → ℕ → ℕ → Answer Value
value_answer b i k = value_check b i k gives value_at (tree_of b) i (k - 1)
