-- Document 02, §5. Rule 22 as document 01 had it, validation with its row put back into the table in force, and what is claimed of that. No contract refers
-- to these definitions.
use Prim.Native.Nat.{ℕ, ◌<◌}
use mathlib.Core.Path.{◌≡◌}
use mathlib.Core.Bool.{Bool, true, false, cond, not, ◌&&◌}
use mathlib.Core.List.{List, [], ◌∷◌, ◌++◌}
use lib.Dec.{eqb}
use lib.ListN.{take, drop}
use Rattle.model.specs.declared.Rejection.{Rejection}
use Rattle.model.specs.Lists.{among, some_from}
use Rattle.model.specs.Rules.{Rule, ◌unless◌, Answer, rejected, Check, passed, check, check_from, ◌then◌, ◌gives◌}
use Rattle.model.specs.Image.{Tree, tree_of, node_count}
use Rattle.model.specs.Records.{sibling, table_check}
use Rattle.model.specs.Containment.{LibraryVersion, ZoneType, Rind, GridLocation, role, validated}
use Rattle.model.specs.Values.{sids_rules}
use Rattle.model.specs.Validation.{Counts, counts, section_check, image_check, validation}

-- once only: the labels that a parent may have once
unfoldable pub once_only : List ℕ
once_only = LibraryVersion ∷ ZoneType ∷ Rind ∷ GridLocation ∷ []

-- 22: a second child of a label allowed once, the later one
unfoldable pub same_role : Tree → ℕ → ℕ → Bool
same_role t i j = sibling t i j && eqb (role t j) (role t i)

unfoldable pub second : Tree → ℕ → Bool
second t i = among (role t i) once_only && some_from (same_role t i) i 0

-- rules 20 to 26 of a validated node, with 22 after 20 and 21
unfoldable pub rules_with22 : Tree → ℕ → List Rule
rules_with22 t i = take 2 (sids_rules t i) ++ (22 unless not (second t i) ∷ drop 2 (sids_rules t i))

unfoldable pub node_check_with22 : Tree → ℕ → Check
node_check_with22 t i = cond (validated t i) (check i (rules_with22 t i) then section_check t i) passed

unfoldable pub image_check_with22 : List ℕ → Check
image_check_with22 b = table_check b then check_from (node_check_with22 (tree_of b)) (tree_of b).count 0

unfoldable pub validation_with22 : List ℕ → Answer Counts
validation_with22 b = image_check_with22 b gives counts (tree_of b)

-- the numbers of a table
unfoldable pub rule_numbers : List Rule → List ℕ
rule_numbers [] = []
rule_numbers ((rule unless holds) ∷ rest) = rule ∷ rule_numbers rest

-- an answer that is no refusal with rule n
abbrev pub Never : {A : Type 0} → ℕ → Answer A → Type 0
Never n a = (r : Rejection) → a ≡ rejected r → r.rule ≡ n → ⊥

-- With the row, which stands between 21 and 23, the answer is never 22, and it is the one without the row; so is the check that other calls make first. In an
-- accepted image no validated node is a second child of a label allowed once.
pub record NeverComes (b : List ℕ) : Type 0 where
  pub row : (i : ℕ) → rule_numbers (take 4 (rules_with22 (tree_of b) i)) ≡ 20 ∷ 21 ∷ 22 ∷ 23 ∷ []
  pub never : Never 22 (validation_with22 b)
  pub same_answer : validation_with22 b ≡ validation b
  pub same_check : image_check_with22 b ≡ image_check b
  pub once : image_check b ≡ passed → (i : ℕ) → i < node_count b → validated (tree_of b) i ≡ true → second (tree_of b) i ≡ false
