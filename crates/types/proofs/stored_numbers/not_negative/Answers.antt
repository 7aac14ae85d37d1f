-- Numbers from half of the patterns on are negative.
use Rattle.model.specs.Values.{not_negative}
use Rattle.types.proofs.stored_numbers.not_negative.Goals as goal

pub returns : goal.returns
unfolding not_negative
returns c = rw c.whole.ensures
