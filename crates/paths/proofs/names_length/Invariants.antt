-- Upward, one name with its slash at each turn; the node number falls.
use mathlib.Core.Path.{◌≡◌}
use Prim.Native.Nat.{◌≤◌, ◌+◌, ◌*◌}
use lib.ListN.{length}
use Rattle.model.specs.Image.{tree_of}
use Rattle.paths.specs.Names.{names_of}
use Rattle.paths.proofs.names_length.Given as goal

abbrev pub invariant-loop-j : goal.invariant-loop-j
invariant-loop-j l = (l.n + 33 * l.j ≤ 33 * l.i) × (l.n + length (names_of (tree_of l.image) l.j) ≡ length (names_of (tree_of l.image) l.i))

abbrev pub decreases-loop-j : goal.decreases-loop-j
decreases-loop-j l = l.j
