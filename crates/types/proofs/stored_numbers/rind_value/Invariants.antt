-- What is left of the numbers decides.
use Rattle.model.specs.Image.{tree_of}
use Rattle.model.specs.Values.{rind_value, not_negative}
use Rattle.model.proofs.Loops.{EveryLeft}
use Rattle.types.proofs.stored_numbers.rind_value.Given as goal

abbrev pub invariant-loop-k : goal.invariant-loop-k
invariant-loop-k l = EveryLeft (not_negative (tree_of l.image) l.i) l.n l.k (rind_value (tree_of l.image) l.i)
