-- Each node after the zone counts as one section or as none.
use lib.ListN.{length}
use Rattle.model.specs.Image.{tree_of, node_count}
use Rattle.model.specs.Containment.{section_of}
use Rattle.model.specs.Sections.{section_nodes}
use Rattle.zone_sections.proofs.Walk.{Counted}
use Rattle.zone_sections.proofs.zones.section_count.Given as goal

abbrev pub invariant-loop-j : goal.invariant-loop-j
invariant-loop-j l = Counted (section_of (tree_of l.image) l.zone) (node_count l.image) l.j l.count (length (section_nodes (tree_of l.image) l.zone))
