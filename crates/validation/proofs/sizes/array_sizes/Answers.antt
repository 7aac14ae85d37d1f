-- The array's own dimensions are DataSize.
use mathlib.Core.Path.{ap}
use Rattle.validation.proofs.Laws.{array_dimensions, sizes-answered}
use Rattle.validation.proofs.sizes.array_sizes.Goals as goal

pub returns : goal.returns
returns c =
    rw (ap (λ r. r.rank) c.read.ensures, c.size_in.ensures, c.size_in-2.ensures, c.size_in-3.ensures)
    (sizes-answered _ c.args.i (array_dimensions _ c.requires.accepted.0 c.args.i c.requires.accepted.1 c.requires.i_value.1 c.requires.i_value.0))
