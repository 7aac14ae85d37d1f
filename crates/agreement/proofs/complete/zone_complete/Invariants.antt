-- One node after the other; a section's faces come after those of the sections before it.
use mathlib.Core.Path.{◌≡◌}
use Rattle.model.specs.Lists.{sum_before}
use Rattle.model.specs.Image.{tree_of, node_count}
use Rattle.model.specs.FaceUsage.{faces_in}
use Rattle.model.specs.ParentElements.{section_agrees, all_agree}
use Rattle.model.proofs.Loops.{EveryLeft}
use Rattle.agreement.proofs.complete.zone_complete.Given as goal

abbrev pub invariant-loop-i : goal.invariant-loop-i
invariant-loop-i l = (l.place ≡ sum_before (faces_in (tree_of l.image) l.z) l.i)
    × EveryLeft (section_agrees (tree_of l.image) l.z) (node_count l.image) l.i (all_agree (tree_of l.image) l.z)
