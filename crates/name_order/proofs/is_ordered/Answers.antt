-- Each node stands right where the call says so.
use Rattle.std.proofs.Common.{refl, ◌∙◌, rules, arith}
use Rattle.std.proofs.lemmas.Iterator.{YieldsList-from_range}
use Rattle.std.proofs.lemmas.Iterator.Search.{all_from_yields_List}
use borrow.Author.Tests.{tests}
use Rattle.records.specs.Table.{all_records}
use Rattle.model.proofs.Chains.{every_in_range}
use Rattle.name_order.specs.Order.{right_at, ordered}
use Rattle.name_order.proofs.is_ordered.Goals as goal

pub returns : goal.returns
unfolding ordered
returns c =
    let n = c.args.count in
    let p = right_at (all_records c.args.table.now) c.args.order.now n in
    all_from_yields_List p _ _ _ c.all.ensures.ran (YieldsList-from_range 0 n n refl (omega arith)) (λ i b q k. search (rules, tests)) ∙ every_in_range p n 0
