-- Every number before k + i refers to a face.
use Prim.Native.Nat.{◌+◌}
use Rattle.model.specs.Image.{tree_of}
use Rattle.section_data.specs.Passing.{Passed}
use Rattle.references.specs.Arrays.{refers_face}
use Rattle.references.proofs.face_references.eight_refer.Given as goal

abbrev pub invariant-loop-i : goal.invariant-loop-i
invariant-loop-i l = Passed (refers_face (tree_of l.image) l.z l.image l.row.at l.row.width) l.row.n l.k (l.k + l.i)
