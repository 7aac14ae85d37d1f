-- The word at the node's first word and k more, after the records.
use native.Mathlib.Omega.{arith}
use mathlib.Core.Path.{◌≡◌, refl, sym, ◌∙◌}
use Rattle.model.specs.Bytes.{le}
use Rattle.model.specs.Image.{Node, node_of, node}
use Rattle.records.specs.Table.{records_of}
use Rattle.records.proofs.Tables.{field, dimension_in}
use Rattle.records.proofs.nodes.dimension.Goals as goal
use Rattle.records.proofs.nodes.dimension.Goals.{After-u32_at-first}

first-is : (c : After-u32_at-first) → let a = c.args in c.u32_at-first.result ≡ (node (records_of a.table.now a.nodes) a.i).first_word
unfolding node_of
first-is c =
    c.u32_at-first.ensures.0 ∙ sym (field _ _ _ c.requires.has_record.1.0 (λ (x : Node). x.first_word) (le 4) 68 (λ r. refl))

pub u64_at-requires : goal.u64_at-requires
u64_at-requires c = omega (arith, first-is c)

pub returns : goal.returns
returns c =
    let a = c.args in
    rw (dimension_in a.table.now a.nodes a.i a.k (omega arith), ← first-is (goal.at.returns c).After-u32_at-first) c.u64_at.ensures
