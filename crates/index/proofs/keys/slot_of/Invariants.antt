-- No slot before the first of its role is for the node, and those after it were asked.
use Prim.Native.Nat.{ℕ, ◌<◌}
use mathlib.Core.Path.{◌≡◌}
use mathlib.Core.Bool.{false}
use Rattle.model.specs.Image.{tree_of}
use Rattle.labels.specs.Roles.{role_number}
use Rattle.index.specs.Keys.{is_key}
use Rattle.index.proofs.keys.slot_of.Given as goal

abbrev pub invariant-loop-k : goal.invariant-loop-k
invariant-loop-k l = (i : ℕ) → i < 4 → i < l.k → is_key (tree_of l.image) (role_number l.above) i l.j ≡ false
