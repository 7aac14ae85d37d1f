-- A number past the last node is no zone.
use Rattle.labels.proofs.Nodes.{some-node, no_node}
use Rattle.index.proofs.tables.is_zone.Goals as goal

pub returns-then-z-node_count : goal.returns-then-z-node_count
returns-then-z-node_count c = some-node _ _ c.node_count.ensures.0 c.if-z-node_count.true c.validated_as.ensures

pub returns-else-z-node_count : goal.returns-else-z-node_count
returns-else-z-node_count c = no_node _ _ c.node_count.ensures.0 c.if-z-node_count.false
