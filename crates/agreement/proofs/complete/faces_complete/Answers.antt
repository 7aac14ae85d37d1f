-- All are matched where the call says so.
use Rattle.std.proofs.Common.{refl, ◌∙◌, rules, arith}
use Rattle.std.proofs.lemmas.Iterator.{YieldsList-from_range}
use Rattle.std.proofs.lemmas.Iterator.Search.{all_from_yields_List}
use borrow.Author.Tests.{tests}
use Rattle.agreement.specs.Matching.{complete_at}
use Rattle.model.proofs.Chains.{every_in_range}
use Rattle.agreement.proofs.complete.faces_complete.Goals as goal

pub returns : goal.returns
unfolding complete_at
returns c =
    let a = c.args in
    let p = complete_at a.image.now a.row a.n a.place a.out.now in
    all_from_yields_List p _ _ _ c.all.ensures.ran (YieldsList-from_range 0 a.n a.n refl (omega arith)) (λ d b q k. search (rules, tests)) ∙ every_in_range p a.n 0
