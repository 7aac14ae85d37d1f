-- A cell is 10 at most, so that each digit from 2 on is a name.
use native.Mathlib.Omega.{arith}
use Rattle.labels.specs.Roles.{kind_number}
use Rattle.labels.proofs.Numbers.{kind_few, turned}
use Rattle.labels.proofs.Grid.{cell_small}
use Rattle.labels.proofs.containment.fixed_name.Goals as goal

pub returns : goal.returns
returns c =
    let a = c.args in
    let s = cell_small (kind_number a.above) (kind_number a.below) (kind_few a.above) (kind_few a.below) in
    let d = c.in_ok-checked_sub.ensures in
    let e = c.cell.ensures in
    turned c.numbered_name.result c.numbered_name.ensures (λ l. omega (arith, d)) (λ n q. omega (arith, d))
