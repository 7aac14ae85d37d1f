-- The record says how many dimensions there are.
use mathlib.Core.Path.{ap}
use Rattle.model.specs.Values.{flat}
use Rattle.model.proofs.Reading.{rank_is}
use Rattle.types.proofs.shapes.flat.Goals as goal

pub returns : goal.returns
unfolding flat
returns c = rw (rank_is _ _, ap (λ r. r.rank) c.read.ensures)
