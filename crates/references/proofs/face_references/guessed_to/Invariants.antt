-- Every number before j refers to a face.
use Prim.Native.Nat.{◌-◌, ◌%◌, ◌≤◌}
use mathlib.Core.Path.{◌≡◌}
use lib.ListN.{length}
use Rattle.model.specs.Image.{tree_of}
use Rattle.section_data.specs.Passing.{Passed}
use Rattle.references.specs.Arrays.{refers_face}
use Rattle.references.proofs.face_references.guessed_to.Given as goal

abbrev pub invariant-loop-j : goal.invariant-loop-j
invariant-loop-j l = (Passed (refers_face (tree_of l.image) l.z l.image l.row.at l.row.width) l.row.n l.k l.j × ((l.j ≤ l.whole) × ((l.whole - l.j) % 8 ≡ 0))) × (length l.entries ≡ 8)

abbrev pub decreases-loop-j : goal.decreases-loop-j
decreases-loop-j l = l.whole - l.j
