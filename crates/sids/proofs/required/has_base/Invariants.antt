-- What is left of the nodes decides.
use Rattle.model.specs.Image.{tree_of}
use Rattle.model.specs.Lists.{some_from}
use Rattle.model.specs.Values.{base_child}
use Rattle.model.proofs.Loops.{SomeLeft}
use Rattle.sids.proofs.required.has_base.Given as goal

abbrev pub invariant-loop-j : goal.invariant-loop-j
invariant-loop-j l = SomeLeft (base_child (tree_of l.image)) l.n l.j (some_from (base_child (tree_of l.image)) l.n 0)
