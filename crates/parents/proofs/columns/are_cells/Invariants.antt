-- Every number before k is a parent: known ones are, and a number that was looked up where it was found. Number k is not known.
use Prim.Native.Nat.{◌-◌, ◌<◌}
use mathlib.Core.Path.{◌≡◌}
use mathlib.Core.Bool.{false}
use Rattle.model.specs.Image.{tree_of}
use Rattle.section_data.specs.Passing.{Passed}
use Rattle.parents.specs.Parents.{parent_at}
use Rattle.parents.proofs.ColumnLaws.{none_at}
use Rattle.parents.proofs.columns.are_cells.Given as goal

abbrev pub invariant-loop-k : goal.invariant-loop-k
invariant-loop-k l = Passed (parent_at (tree_of l.image) l.z l.none l.image l.row) l.n 0 l.k
    × (l.k < l.n → none_at l.none l.image l.row l.k ≡ false)

abbrev pub decreases-loop-k : goal.decreases-loop-k
decreases-loop-k l = l.n - l.k
