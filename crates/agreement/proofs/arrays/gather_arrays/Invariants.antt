-- One node after the other.
use Rattle.model.specs.Image.{tree_of}
use Rattle.agreement.specs.Arrays.{Arrays}
use Rattle.agreement.proofs.arrays.gather_arrays.Given as goal

abbrev pub invariant-loop-i : goal.invariant-loop-i
invariant-loop-i l = Arrays (tree_of l.image) l.z l.i l.n l.firsts l.arrays
