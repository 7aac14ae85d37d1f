-- A ZoneType that reads this text reads a permitted one.
use mathlib.Core.Path.{◌∙◌}
use Rattle.model.specs.Bytes.{text}
use Rattle.types.proofs.ZoneTypes.{is-structured}
use Rattle.types.proofs.zones.structured.Goals as goal

pub returns : goal.returns
unfolding text
returns c = c.zone_type_reads.ensures ∙ is-structured _ _
