-- One of the two texts.
use Rattle.model.specs.Bytes.{text}
use Rattle.model.specs.Values.{zone_type_value}
use Rattle.types.proofs.stored_texts.zone_type_value.Goals as goal

pub returns : goal.returns
unfolding zone_type_value text
returns c = c.reads_either.ensures
