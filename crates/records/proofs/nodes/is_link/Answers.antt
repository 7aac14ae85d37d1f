-- LK is known by its two bytes.
use Rattle.model.specs.Records.{link}
use Rattle.records.proofs.Codes.{link_by_code}
use Rattle.records.proofs.nodes.is_link.Goals as goal

pub returns : goal.returns
unfolding link
returns c = link_by_code _ c.type_code.ensures.0
