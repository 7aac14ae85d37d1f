-- Some earlier node is a namesake where the call says so.
use Rattle.std.proofs.Common.{refl, ◌∙◌, rules, arith}
use Rattle.std.proofs.lemmas.Iterator.{YieldsList-from_range}
use Rattle.std.proofs.lemmas.Iterator.Search.{any_from_yields_List}
use borrow.Author.Tests.{tests}
use Rattle.records.specs.Table.{all_records}
use Rattle.model.specs.Records.{namesake, name_taken}
use Rattle.model.proofs.Chains.{some_in_range}
use Rattle.name_order.proofs.is_taken_before.Goals as goal

pub returns : goal.returns
unfolding name_taken
returns c =
    let i = c.args.i in
    let p = namesake (all_records c.args.table.now) i in
    any_from_yields_List p _ _ _ c.any.ensures.ran (YieldsList-from_range 0 i i refl (omega arith)) (λ j b q k. search (rules, tests)) ∙ some_in_range p i 0
