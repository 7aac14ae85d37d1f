-- The connectivity is a row of the bytes, and no entry of it is a type number: its first number outside 1 to VertexSize is the first entry that breaks rule 34.
use mathlib.Core.Path.{ap, ◌∙◌}
use Rattle.std.proofs.Common.{None, Some}
use Rattle.model.specs.Rules.{rejected}
use Rattle.section_data.proofs.ArrayLaws.{row-numbers}
use Rattle.references.proofs.RuleLaws.{long-is, first-node, nodes-kept, nodes_broken}
use Rattle.references.proofs.nodes.node_stage.Goals as goal

pub returns-in_default : goal.returns-in_default
returns-in_default c =
    nodes-kept _ _ (long-is c.requires.sound.0 _ c.requires.row_of) c.requires.fact.1
    (first-node c.requires.sound.0 _ c.requires.row_of _ c.vertex_size-vertices.ensures c.requires.fact.0 None (rw c.in_default.is at c.first_no_node.ensures))

pub returns : goal.returns
returns c =
    ap rejected c.at_entry.ensures
    ∙ nodes_broken _ _ (long-is c.requires.sound.0 _ c.requires.row_of) c.requires.fact.1
    (first-node c.requires.sound.0 _ c.requires.row_of _ c.vertex_size-vertices.ensures c.requires.fact.0 (Some c.in-Some.k) c.in-Some.ensures)

pub first_no_node-requires : goal.first_no_node-requires
first_no_node-requires c = row-numbers c.requires.sound.0 c.requires.row_of
