-- One node after the other: the entries are the face sections before it.
use Rattle.model.specs.Image.{tree_of}
use Rattle.face_places.specs.Ranges.{Ranges}
use Rattle.face_places.proofs.places.gather.Given as goal

abbrev pub invariant-loop-i : goal.invariant-loop-i
invariant-loop-i l = Ranges (tree_of l.image) l.z l.i l.firsts l.reach l.places l.n
