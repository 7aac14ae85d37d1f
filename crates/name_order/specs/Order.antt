-- Nodes in the order of their parents and names, in a table of u16: node numbers from place 0 on, and the place of each node from 8192 on.
use Rattle.std.specs.Prelude.{ℕ, ◌+◌, ◌-◌, ◌*◌, ◌≤◌, Bool, true, false, cond, ◌&&◌, List, [], ◌∷◌, eqb, ltb, length, get_or}
use Rattle.model.specs.Lists.{every_from}
use Rattle.model.specs.Image.{Tree, name, parent}
use Rattle.model.specs.Records.{namesake}

-- the order of two lists of one length, by the first number that differs; `last` where none does
unfoldable pub lower : Bool → List ℕ → List ℕ → Bool
lower last [] [] = last
lower last [] (y ∷ u) = false
lower last (x ∷ s) [] = false
lower last (x ∷ s) (y ∷ u) = let rest = lower last s u in cond (eqb x y) rest (ltb x y)

-- node j stands before node i: by parent, then by name, then by number
unfoldable pub precedes : Tree → ℕ → ℕ → Bool
precedes t j i = lower (ltb j i) (parent t j ∷ name t j) (parent t i ∷ name t i)

-- the node stored at place k; 0 where the number there is that of none of n nodes
unfoldable pub node_at : List ℕ → ℕ → ℕ → ℕ
node_at o n k = cond (ltb (get_or o k 0) n) (get_or o k 0) 0

-- the place of node i
abbrev pub place_of : List ℕ → ℕ → ℕ → ℕ
place_of o n i = node_at o n (8192 + i)

-- node i stands at its place, and the node at place i after the one before
unfoldable pub right_at : Tree → List ℕ → ℕ → ℕ → Bool
right_at t o n i = eqb (node_at o n (place_of o n i)) i && cond (eqb i 0) true (precedes t (node_at o n (i - 1)) (node_at o n i))

unfoldable pub ordered : Tree → List ℕ → ℕ → Bool
ordered t o n = every_from (right_at t o n) n 0

-- the node before node i in the order is its namesake
unfoldable pub taken_beside : Tree → List ℕ → ℕ → ℕ → Bool
taken_beside t o n i = cond (eqb (place_of o n i) 0) false (namesake t i (node_at o n (place_of o n i - 1)))

-- the bytes hold the records of n nodes
abbrev pub HasNodes : List ℕ → ℕ → Type 0
HasNodes s n = (n ≤ 4096) × (84 * n ≤ length s)
