-- One node after the other: the entries are the face sections before it.
use native.Mathlib.Omega.{arith}
use lib.ListN.{length-set}
use lib.Seq.{get_or-set_same}
use Rattle.face_places.proofs.Gathering.{no_ranges}
use Rattle.face_places.proofs.places.gather.Goals as goal

pub loop-i-init : goal.loop-i-init
loop-i-init c =
    let p = c.args.places.now in no_ranges _ _ _ _ _ (get_or-set_same p 0 0 0 (omega arith)) (rw (length-set p 0 0) (omega arith))
