-- Rows of start offsets in bytes, and what rules 30 to 33 ask of them.
use Rattle.std.specs.Prelude.{ℕ, suc, ◌-◌, Bool, ◌&&◌, List, [], ◌∷◌, eqb, leb}
use Rattle.model.specs.Lists.{every_from}
use Rattle.model.specs.Rules.{Rule, ◌unless◌}
use Rattle.model.specs.Bytes.{below}
use Rattle.model.specs.Corner.{number_at}

-- 31: number k is below the next
unfoldable pub rises_at : List ℕ → ℕ → ℕ → ℕ → Bool
rises_at b at w k = below w (number_at b at w k) (number_at b at w (suc k))

-- 33: number k + 1 is at least `least` above number k
unfoldable pub large_at : List ℕ → ℕ → ℕ → ℕ → ℕ → Bool
large_at b at w least k = leb least (number_at b at w (suc k) - number_at b at w k)

-- 31 and 33
unfoldable pub rises_by : List ℕ → ℕ → ℕ → ℕ → ℕ → Bool
rises_by b at w least k = rises_at b at w k && large_at b at w least k

-- 30 to 33, of n + 1 start offsets
unfoldable pub offset_rules : List ℕ → ℕ → ℕ → ℕ → ℕ → ℕ → List Rule
offset_rules b at w n size least =
    30 unless eqb (number_at b at w 0) 0
    ∷ 31 unless every_from (rises_at b at w) n 0
    ∷ 32 unless eqb (number_at b at w n) size
    ∷ 33 unless every_from (large_at b at w least) n 0
    ∷ []
