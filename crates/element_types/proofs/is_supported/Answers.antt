-- A type is supported where it has a fixed number of nodes or start offsets.
use borrow.Author.Tests.{lt-ltb, le-ltb}
use Rattle.model.specs.Elements.{taken}
use Rattle.element_types.proofs.is_supported.Goals as goal

pub returns-then-nodes_per-gt0 : goal.returns-then-nodes_per-gt0
unfolding taken
returns-then-nodes_per-gt0 c = rw (← c.nodes_per.ensures.0, lt-ltb _ _ c.if-nodes_per-gt0.true)

pub returns-else-nodes_per-gt0 : goal.returns-else-nodes_per-gt0
unfolding taken
returns-else-nodes_per-gt0 c = rw (← c.nodes_per.ensures.0, le-ltb _ _ c.if-nodes_per-gt0.false) c.has_offsets.ensures
