-- The bits are compared with half of the patterns, as the model compares them.
use Rattle.model.specs.Bytes.{negative}
use Rattle.rows.proofs.is_negative.Goals as goal

pub returns : goal.returns
unfolding negative
returns c = rw (c.half_of-half.ensures, c.number_at.ensures)
