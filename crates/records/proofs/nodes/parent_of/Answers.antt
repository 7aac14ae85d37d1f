-- The parent is read at its place in the record.
use native.Mathlib.Omega.{arith}
use mathlib.Core.Path.{refl, sym, ◌∙◌}
use Rattle.model.specs.Bytes.{le}
use Rattle.model.specs.Image.{Node, node_of, parent}
use Rattle.records.proofs.Tables.{field}
use Rattle.records.proofs.nodes.parent_of.Goals as goal

pub returns : goal.returns
unfolding node_of parent
returns c =
    (c.u32_at.ensures.0 ∙ sym (field _ _ _ c.requires.0 (λ (x : Node). x.parent) (le 4) 72 (λ r. refl)), omega arith)
