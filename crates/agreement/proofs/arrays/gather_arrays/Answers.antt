-- One node after the other.
use Rattle.agreement.proofs.ArrayLaws.{no_arrays}
use Rattle.agreement.proofs.arrays.gather_arrays.Goals as goal

pub loop-i-init : goal.loop-i-init
loop-i-init c = no_arrays _ _ _ _ _ c.requires.accepted.1
