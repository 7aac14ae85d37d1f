-- Every number before k refers to a face: numbers in the two intervals do, a number looked up where it is found, and so do those guessed.
use Prim.Native.Nat.{◌-◌}
use Rattle.model.specs.Image.{tree_of}
use Rattle.ranges.specs.Tables.{Covered}
use Rattle.section_data.specs.Passing.{Passed}
use Rattle.references.specs.Arrays.{refers_face}
use Rattle.references.proofs.face_references.first_no_face.Given as goal

abbrev pub invariant-loop-k : goal.invariant-loop-k
invariant-loop-k l = Covered l.firsts l.reach l.count l.z l.last × Passed (refers_face (tree_of l.image) l.z l.image l.row.at l.row.width) l.n 0 l.k

abbrev pub decreases-loop-k : goal.decreases-loop-k
decreases-loop-k l = l.n - l.k
