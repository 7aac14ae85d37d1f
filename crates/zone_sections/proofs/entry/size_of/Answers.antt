-- A node of one dimension stores as many numbers as its dimension word says.
use Rattle.model.specs.Values.{size}
use Rattle.zone_sections.proofs.Parts.{one_word}
use Rattle.zone_sections.proofs.entry.size_of.Goals as goal

pub dimension-requires : goal.dimension-requires
dimension-requires c = let p = c.requires in record { laid = (p.0.0.laid, p.0.1); k_bound = one_word _ p.0.0 _ p.0.1 p.1 }

pub returns : goal.returns
unfolding size
returns c = c.dimension.ensures
