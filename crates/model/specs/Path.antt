-- Handing out: the path of a node. It needs only rules 1 to 18, then 40, then 46.
use Rattle.std.specs.Prelude.{ℕ, zero, suc, cond, ◌&&◌, List, [], ◌∷◌, ◌++◌, length, eqb, ltb, leb}
use Rattle.model.specs.Lists.{over}
use Rattle.model.specs.Bytes.{blank}
use Rattle.model.specs.Rules.{◌unless◌, Answer, Check, check, ◌then◌, ◌gives◌, leaves}
use Rattle.model.specs.Image.{Tree, tree_of, name, parent}
use Rattle.model.specs.Records.{table_check}

-- a name, its padding dropped
unfoldable pub trimmed : List ℕ → List ℕ
trimmed [] = []
trimmed (x ∷ s) = let rest = trimmed s in cond (eqb x 32 && blank s) [] (x ∷ rest)

abbrev pub slash : ℕ
slash = 47

-- the names from below the root down to node i, each after a slash; at most d of them
unfoldable pub names_within : Tree → ℕ → ℕ → List ℕ
names_within t zero i = []
names_within t (suc d) i = let above = names_within t d (parent t i) in cond (eqb i 0) [] (above ++ (slash ∷ trimmed (name t i)))

-- a parent has a lower number, so there are at most i; the root's path is one slash
unfoldable pub path_of : Tree → ℕ → List ℕ
path_of t i = cond (eqb i 0) (slash ∷ []) (names_within t i i)

unfoldable pub path_check : List ℕ → ℕ → ℕ → Check
path_check b i room =
    table_check b then check 0 (40 unless ltb i (tree_of b).count ∷ 46 unless leb (length (path_of (tree_of b) i)) room ∷ [])

-- its length is answered, and bytes beyond it stay
unfoldable pub path_answer : List ℕ → ℕ → ℕ → Answer ℕ
path_answer b i room = path_check b i room gives length (path_of (tree_of b) i)

unfoldable pub path_memory : List ℕ → ℕ → List ℕ → List ℕ
path_memory b i out = leaves (path_check b i (length out)) out (over out (path_of (tree_of b) i))
