-- Rule 40, rule 46, then the path.
use native.Mathlib.Omega.{arith}
use mathlib.Core.Path.{◌∙◌, ap}
use Rattle.model.specs.Rules.{rejected, answer}
use Rattle.records.proofs.Places.{node-count-at}
use Rattle.paths.proofs.Answer.{unknown, no_room, fits}
use Rattle.paths.proofs.sound_path.Goals as goal

pub returns-then-count-node : goal.returns-then-count-node
returns-then-count-node c =
    let r = unknown c.requires c.args.node c.args.out.now (omega (arith, node-count-at c.args.image.now)) in
    (ap rejected c.at.ensures ∙ r.0, r.1)

pub path_length-n-requires : goal.path_length-n-requires
path_length-n-requires c =
    (c.requires, omega (arith, node-count-at c.args.image.now))

pub returns-then-out-n : goal.returns-then-out-n
returns-then-out-n c =
    let r = no_room c.requires c.args.node c.args.out.now (omega (arith, node-count-at c.args.image.now)) (omega arith) in
    (ap rejected c.at-then-out-n.ensures ∙ r.0, r.1)

pub write_path-requires : goal.write_path-requires
write_path-requires c =
    ((c.requires, omega (arith, node-count-at c.args.image.now)), omega arith)

pub returns : goal.returns
returns c =
    let r = fits c.requires c.args.node c.args.out.now (omega (arith, node-count-at c.args.image.now)) (omega arith) in
    (ap answer c.path_length-n.ensures ∙ r.0, c.write_path.ensures ∙ r.1)
