-- The first node that breaks the rule, where the call found one.
use Rattle.std.proofs.Common.{◌≡◌, true, false, rules}
use Rattle.std.proofs.lemmas.Iterator.{first_from_Range}
use borrow.Author.Tests.{tests}
use Rattle.model.specs.Image.{tree_of}
use Rattle.parents.specs.Parents.{parents_broken}
use Rattle.parents.proofs.ParentLaws.{found_broken}
use Rattle.parents.proofs.rule.first_broken_from.Goals as goal

pub returns : goal.returns
returns c =
    let t = tree_of c.args.image.now in
    let p = parents_broken t in
    found_broken t _ c.requires.start_value c.find.result
    (rw c.node_count.ensures.0 at (first_from_Range _ _ _ c.find.result (λ i. p i ≡ true) (λ i. p i ≡ false) c.find.ensures.ran (λ i q k. search (rules, tests)) (λ i q k. search (rules, tests))))
