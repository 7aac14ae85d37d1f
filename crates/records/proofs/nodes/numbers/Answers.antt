-- Each number is read at its place in the record.
use mathlib.Core.Path.{refl}
use Rattle.model.specs.Bytes.{le}
use Rattle.model.specs.Image.{Node, node_of, parent}
use Rattle.records.proofs.Tables.{field}
use Rattle.records.proofs.nodes.numbers.Goals as goal

pub returns : goal.returns
unfolding node_of parent
returns c =
    let at = field c.args.table.now 4096 c.args.i c.requires.0 in
    cc (
      at (λ (x : Node). x.rank) (le 2) 66 (λ r. refl),
      at (λ (x : Node). x.first_word) (le 4) 68 (λ r. refl),
      at (λ (x : Node). x.parent) (le 4) 72 (λ r. refl),
      at (λ (x : Node). x.data_at) (le 4) 76 (λ r. refl),
      at (λ (x : Node). x.data_size) (le 4) 80 (λ r. refl),
    )
