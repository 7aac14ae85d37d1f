-- The first node whose name is taken, where the call found one.
use Rattle.std.proofs.Common.{◌≡◌, true, false, rules}
use Rattle.std.proofs.lemmas.Iterator.{first_from_Range}
use borrow.Author.Tests.{tests}
use Rattle.records.specs.Table.{all_records}
use Rattle.model.specs.Records.{name_taken}
use Rattle.model.proofs.Found.{seek_found}
use Rattle.name_order.proofs.first_by.Goals as goal

pub returns : goal.returns
returns c =
    let p = name_taken (all_records c.args.table.now) in
    seek_found p c.args.count c.find.result
    (first_from_Range _ _ _ c.find.result (λ i. p i ≡ true) (λ i. p i ≡ false) c.find.ensures.ran (λ i q k. search (rules, tests)) (λ i q k. search (rules, tests)))
