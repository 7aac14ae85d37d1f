-- The first node that stores parents, where the call found one.
use Rattle.std.proofs.Common.{◌≡◌, true, false, rules}
use Rattle.std.proofs.lemmas.Iterator.{first_from_Range}
use borrow.Author.Tests.{tests}
use Rattle.model.specs.Image.{tree_of}
use Rattle.model.proofs.Found.{seek_found}
use Rattle.parents.specs.Parents.{stores_parents}
use Rattle.parents.proofs.ParentLaws.{some_stored}
use Rattle.parents.proofs.rule.first_stored.Goals as goal

pub returns : goal.returns
returns c =
    let p = stores_parents (tree_of c.args.image.now) in
    rw c.node_count.ensures.0 at (seek_found p _ c.find.result
    (first_from_Range _ _ _ c.find.result (λ i. p i ≡ true) (λ i. p i ≡ false) c.find.ensures.ran (λ i q k. search (rules, tests, some_stored)) (λ i q k. search (rules, tests, some_stored))))
