-- The links are cleared first.
use native.Mathlib.Omega.{arith}
use mathlib.Core.Path.{◌∙◌}
use Rattle.table.proofs.stages.records_stage.Goals as goal

pub node_stages-requires : goal.node_stages-requires
node_stages-requires c =
    let p = c.requires in
    (p.0, (omega (arith, p.1, c.clear.auto.links), c.clear.ensures))

pub clear-requires : goal.clear-requires
clear-requires c = omega (arith, c.requires.1)

pub shape_of-seen : goal.shape_of-seen
shape_of-seen c = c.node_stages.auto.seen ∙ c.clear.auto.links

pub returns : goal.returns
returns c = c.node_stages.ensures
