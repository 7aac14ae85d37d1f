-- The data types whose values are handed out (rule 47).
use Rattle.std.specs.Prelude.{ℕ, List, [], ◌∷◌}
use Rattle.model.specs.Image.{I4, I8, R4, R8}

abbrev pub readable : List ℕ
readable = I4 ∷ I8 ∷ R4 ∷ R8 ∷ []
