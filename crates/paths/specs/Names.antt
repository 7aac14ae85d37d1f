-- The parts of a path.
use Rattle.std.specs.Prelude.{ℕ, List, ◌∷◌}
use Rattle.model.specs.Image.{Tree, name}
use Rattle.model.specs.Path.{trimmed, slash, names_within}

-- a slash and the name of node i
abbrev pub step_of : Tree → ℕ → List ℕ
step_of t i = slash ∷ trimmed (name t i)

-- the names from below the root down to node i, each after a slash
abbrev pub names_of : Tree → ℕ → List ℕ
names_of t i = names_within t i i
