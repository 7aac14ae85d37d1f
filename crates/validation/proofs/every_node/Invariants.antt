-- The lowest node first: the whole is what is left from here.
use mathlib.Core.Path.{◌≡◌}
use lib.ListN.{length}
use Rattle.model.specs.Image.{tree_of}
use Rattle.validation.proofs.Laws.{NodesLeft}
use Rattle.validation.proofs.every_node.Given as goal

abbrev pub invariant-loop-i : goal.invariant-loop-i
invariant-loop-i l = (length l.levels ≡ length l.initial.levels) × NodesLeft (tree_of l.image) l.i-end l.i
