-- Rules 20 to 26 in the groups that the code tests them in, and the children that rule 23 requires.
use Rattle.std.specs.Prelude.{ℕ, Bool, false, cond, ◌||◌, List, [], ◌∷◌, eqb}
use Rattle.model.specs.Lists.{◌has◌, row}
use Rattle.model.specs.Bytes.{text}
use Rattle.model.specs.Rules.{Rule, ◌unless◌}
use Rattle.model.specs.Image.{Tree, parent}
use Rattle.model.specs.Containment.{Zone, ZoneType, Elements, IndexRange, DataArray, child}
use Rattle.index.specs.Index.{kind}
use Rattle.model.specs.Values.{placed, named, complete, type_lawful, value_lawful, sizes_lawful}

-- node i is the ZoneType of a zone, or the ElementRange or ElementConnectivity of a section; k is its parent's kind
abbrev pub required_under : Tree → ℕ → ℕ → Bool
required_under t k i =
    row k false
    (Zone has eqb (child t (parent t i) ZoneType (text "ZoneType")) i
    ∷ Elements has (eqb (child t (parent t i) IndexRange (text "ElementRange")) i || eqb (child t (parent t i) DataArray (text "ElementConnectivity")) i)
    ∷ [])

unfoldable pub is_required : Tree → ℕ → Bool
is_required t i = cond (eqb i 0) false (required_under t (kind t (parent t i)) i)

abbrev pub place_rules : Tree → ℕ → List Rule
place_rules t i = 20 unless placed t i ∷ 21 unless named t i ∷ []

abbrev pub content_rules : Tree → ℕ → List Rule
content_rules t i = 23 unless complete t i ∷ 24 unless type_lawful t i ∷ 25 unless value_lawful t i ∷ []

abbrev pub size_rules : Tree → ℕ → List Rule
size_rules t i = 26 unless sizes_lawful t i ∷ []
