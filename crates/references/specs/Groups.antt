-- The rules of a section in groups, as the stages test them.
use Rattle.std.specs.Prelude.{ℕ, cond, List, [], ◌∷◌, eqb}
use Rattle.model.specs.Lists.{◌⊃◌}
use Rattle.model.specs.Rules.{Rule, ◌unless◌, Check, check, ◌then◌}
use Rattle.model.specs.Image.{Tree}
use Rattle.model.specs.Elements.{MIXED, has_offsets, element_type_of, lengths_fit, starts_at_zero, all_rise, ends_at_length, all_large_enough}
use Rattle.model.specs.Elements.{all_types_fit, element_of, reference_check}

unfoldable pub shape_rules : Tree → ℕ → List Rule
shape_rules t s =
    29 unless lengths_fit t s
    ∷ 30 unless (has_offsets (element_type_of t s) ⊃ starts_at_zero t s)
    ∷ 31 unless (has_offsets (element_type_of t s) ⊃ all_rise t s)
    ∷ 32 unless (has_offsets (element_type_of t s) ⊃ ends_at_length t s)
    ∷ 33 unless all_large_enough t s
    ∷ []

unfoldable pub type_rules : Tree → ℕ → List Rule
type_rules t s = 38 unless (eqb (element_type_of t s) MIXED ⊃ all_types_fit t s) ∷ []

-- 38, then 34 to 37 of the entries
unfoldable pub connectivity_check : Tree → ℕ → Check
connectivity_check t s = check s (type_rules t s) then reference_check t s

-- the rule that a reference to f breaks where f is no face of zone z
unfoldable pub face_rule : Tree → ℕ → ℕ → ℕ
face_rule t z f = cond (eqb f 0) 35 (cond (element_of t z f) 37 36)
