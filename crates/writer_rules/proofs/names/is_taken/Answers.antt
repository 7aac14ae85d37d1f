-- Some record is a namesake where the call says so.
use Rattle.std.proofs.Common.{refl, ◌∙◌, rules, arith}
use Rattle.std.proofs.lemmas.Iterator.{YieldsList-from_range}
use Rattle.std.proofs.lemmas.Iterator.Search.{any_from_yields_List}
use borrow.Author.Tests.{tests}
use Rattle.model.proofs.Chains.{some_in_range}
use Rattle.writer_rules.proofs.RuleLaws.{namesake_in, taken_is}
use Rattle.writer_rules.proofs.names.is_taken.Goals as goal

pub returns : goal.returns
returns c = λ a e f.
    let n = c.args.state.node in
    let p = namesake_in c.args.name.now c.args.parent c.args.room.now in
    any_from_yields_List p _ _ _ c.any.ensures.ran (YieldsList-from_range 0 n n refl (omega arith)) (λ j b q k. search (rules, tests))
    ∙ some_in_range p n 0
    ∙ taken_is _ a _ e f
