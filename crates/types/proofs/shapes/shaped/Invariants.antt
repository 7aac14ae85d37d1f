-- What is left of the dimensions decides.
use mathlib.Core.Path.{◌≡◌}
use lib.ListN.{take, drop}
use Rattle.model.specs.Bytes.{same}
use Rattle.model.specs.Image.{tree_of, dimensions}
use Rattle.types.proofs.shapes.shaped.Given as goal

abbrev pub invariant-loop-k : goal.invariant-loop-k
invariant-loop-k l =
    same (drop l.k (dimensions (tree_of l.image) l.i)) (drop l.k (take l.n l.sizes)) ≡ same (dimensions (tree_of l.image) l.i) (take l.n l.sizes)
