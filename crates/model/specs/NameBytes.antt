-- Document 02 §3: how many name bytes are compared where each two siblings are, up to the first byte that differs. Refusals: rules 1 to 18.
use Rattle.std.specs.Prelude.{ℕ, suc, ◌-◌, ◌≤◌, ◌<◌, ◌≡◌, true, cond, List, [], ◌∷◌, get_or, eqb}
use Rattle.model.specs.Lists.{sum_before}
use Rattle.model.specs.Rules.{Answer, passed, ◌gives◌}
use Rattle.model.specs.Image.{Tree, tree_of, node_count, name}
use Rattle.model.specs.Records.{sibling, table_check}

-- the place of the first byte that differs, from 1; one past the last where none does
unfoldable pub first_difference : List ℕ → List ℕ → ℕ
first_difference [] u = 1
first_difference (x ∷ s) [] = 1
first_difference (x ∷ s) (y ∷ u) = let rest = first_difference s u in cond (eqb x y) (suc rest) 1

-- the bytes compared of nodes i and j: none where they are no siblings
unfoldable pub pair_bytes : Tree → ℕ → ℕ → ℕ
pair_bytes t i j = cond (sibling t i j) (first_difference (name t j) (name t i)) 0

-- of node i and each node before it
unfoldable pub bytes_with_earlier : Tree → ℕ → ℕ
bytes_with_earlier t i = sum_before (pair_bytes t i) i

-- over all pairs, each once
unfoldable pub name_bytes : Tree → ℕ
name_bytes t = sum_before (bytes_with_earlier t) t.count

unfoldable pub name_bytes_answer : List ℕ → Answer ℕ
name_bytes_answer b = table_check b gives name_bytes (tree_of b)

-- two names differ first at place p
pub record DifferFirst (s u : List ℕ) (p : ℕ) : Type 0 where
  pub from_one : 1 ≤ p
  pub in_name : p ≤ 32
  pub differs : get_or s (p - 1) 0 ≡ get_or u (p - 1) 0 → ⊥
  pub same-before : (k : ℕ) → k < p - 1 → get_or s k 0 ≡ get_or u k 0

-- Where rules 1 to 18 hold, each two siblings differ first at a place, and that place is what is summed.
abbrev pub SiblingsDiffer : Type 0
SiblingsDiffer =
    (b : List ℕ) → table_check b ≡ passed → (i j : ℕ) → j < i → i < node_count b → sibling (tree_of b) i j ≡ true
    → DifferFirst (name (tree_of b) j) (name (tree_of b) i) (pair_bytes (tree_of b) i j)
