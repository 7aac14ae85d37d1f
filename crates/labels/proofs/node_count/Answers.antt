-- The header's third word.
use mathlib.Core.Path.{◌≡◌, ◌∙◌}
use Rattle.model.specs.Image.{node_count}
use Rattle.labels.proofs.Nodes.{count_at}
use native.Mathlib.Omega.{arith}
use Rattle.labels.proofs.node_count.Goals as goal

pub returns : goal.returns
returns c =
    let e : c.u32_at.result ≡ node_count c.args.image.now = c.u32_at.ensures.0 ∙ count_at _ in
    (e, omega arith)
