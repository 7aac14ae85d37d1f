-- The verdict of document 01: header, records, leftovers, meaning; and the four counts of an acceptance.
use Rattle.std.specs.Prelude.{ℕ, cond, List, eqb}
use Rattle.model.specs.Lists.{count_from}
use Rattle.model.specs.Rules.{Answer, Check, passed, check, check_from, ◌then◌, ◌gives◌}
use Rattle.model.specs.Image.{Tree, tree_of}
use Rattle.model.specs.Records.{table_check}
use Rattle.model.specs.Containment.{Zone, Elements, role, validated, skipped, validated_as}
use Rattle.model.specs.Values.{sids_rules}
use Rattle.model.specs.Elements.{element_rules, reference_check, parent_rules}

-- a section has rules 27 to 33 and 38 besides, then 34 to 37 of the entries of its connectivity, then 39
unfoldable pub section_check : Tree → ℕ → Check
section_check t i = cond (eqb (role t i) Elements) (check i (element_rules t i) then reference_check t i then check i (parent_rules t i)) passed

-- a node that is not validated is skipped
unfoldable pub node_check_at : Tree → ℕ → Check
node_check_at t i = cond (validated t i) (check i (sids_rules t i) then section_check t i) passed

unfoldable pub node_check : Tree → Check
node_check t = check_from (node_check_at t) t.count 0

unfoldable pub image_check : List ℕ → Check
image_check b = table_check b then node_check (tree_of b)

-- nodes validated, nodes skipped, validated zones, validated sections
pub record Counts : Type 0 where
  pub validated : ℕ
  pub skipped : ℕ
  pub zones : ℕ
  pub sections : ℕ

unfoldable pub counts : Tree → Counts
counts t =
    record {
      validated = count_from (validated t) t.count 0;
      skipped = count_from (skipped t) t.count 0;
      zones = count_from (validated_as t Zone) t.count 0;
      sections = count_from (validated_as t Elements) t.count 0;
    }

unfoldable pub validation : List ℕ → Answer Counts
validation b = image_check b gives counts (tree_of b)
