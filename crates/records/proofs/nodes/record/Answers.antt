-- Each field is read at its place in the record.
use mathlib.Core.Path.{refl}
use lib.ListN.{take}
use Rattle.model.specs.Image.{Node, node_of, name, label}
use Rattle.records.proofs.Tables.{field}
use Rattle.records.proofs.nodes.record.Goals as goal

pub returns : goal.returns
unfolding node_of name label
returns c =
    let at = field c.args.table.now 4096 c.args.i c.requires.0 in
    rw (
      c.text_at-name.ensures,
      c.text_at-label.ensures,
      c.pair_at-data_type.ensures,
      c.numbers-numbers.ensures,
      at (λ (x : Node). x.name) (take 32) 0 (λ r. refl),
      at (λ (x : Node). x.label) (take 32) 32 (λ r. refl),
      at (λ (x : Node). x.data_type) (take 2) 64 (λ r. refl),
    )
