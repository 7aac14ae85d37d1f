-- Two signed numbers of w bytes as the begin and end of a PointRange.
use Rattle.std.specs.Prelude.{ℕ, Bool, not, ◌&&◌, leb}
use Rattle.model.specs.Bytes.{magnitude, below}
use Rattle.model.specs.Values.{max_number}

-- both are within ±2,147,483,647, and the begin is at most the end
abbrev pub lawful_between : ℕ → ℕ → ℕ → Bool
lawful_between w b e = leb (magnitude w b) max_number && leb (magnitude w e) max_number && not (below w e b)
