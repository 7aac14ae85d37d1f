-- The rules of an addition, in groups, one group a function.
use Rattle.std.specs.Prelude.{ℕ, List, [], ◌∷◌}
use Rattle.model.specs.Rules.{Rule, ◌unless◌}
use Rattle.model.specs.Image.{Tree}
use Rattle.model.specs.Records.{data_size_lawful}
use Rattle.writer_model.specs.After.{words_after, bytes_after}
use Rattle.table.specs.Groups.{place_rules}
use Rattle.writer_model.specs.Writer.{line_lawful}

-- rules 7 and 8, 7 also of all above
abbrev pub line_rules : Tree → ℕ → List Rule
line_rules t i = 7 unless line_lawful t i i ∷ place_rules t i

-- rules 15 to 17, after w words and x bytes
abbrev pub sizes_after : Tree → ℕ → ℕ → ℕ → List Rule
sizes_after t w x i = 15 unless words_after t w i ∷ 16 unless data_size_lawful t i ∷ 17 unless bytes_after t x i ∷ []
