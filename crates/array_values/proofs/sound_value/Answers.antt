-- Rule 40, then the node's value.
use native.Mathlib.Omega.{arith}
use mathlib.Core.Path.{◌∙◌, ap}
use Rattle.model.specs.Rules.{rejected}
use Rattle.records.proofs.Places.{node-count-at}
use Rattle.array_values.proofs.Answer.{unknown}
use Rattle.array_values.proofs.sound_value.Goals as goal

pub returns-then-count-node : goal.returns-then-count-node
returns-then-count-node c =
    (ap rejected c.at.ensures ∙ unknown c.requires c.args.node c.args.k (omega (arith, node-count-at c.args.image.now)), tt)

pub node_value-requires : goal.node_value-requires
node_value-requires c =
    (c.requires, omega (arith, node-count-at c.args.image.now))

pub returns : goal.returns
returns c = c.node_value.ensures
