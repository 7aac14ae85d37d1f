-- One of the two texts.
use Rattle.model.specs.Bytes.{text}
use Rattle.model.specs.Values.{location_value}
use Rattle.types.proofs.stored_texts.location_value.Goals as goal

pub returns : goal.returns
unfolding location_value text
returns c = c.reads_either.ensures
