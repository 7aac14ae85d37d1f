-- Some node has them where the call says so.
use Rattle.std.proofs.Common.{refl, ◌∙◌, rules, arith}
use Rattle.std.proofs.lemmas.Iterator.{YieldsList-from_range}
use Rattle.std.proofs.lemmas.Iterator.Search.{any_from_yields_List}
use borrow.Author.Tests.{tests}
use Rattle.model.specs.Image.{tree_of}
use Rattle.model.specs.ParentElements.{has_parents}
use Rattle.model.proofs.Chains.{some_in_range}
use Rattle.face_parents.proofs.face.any_parents.Goals as goal

pub returns : goal.returns
returns c =
    let n = c.node_count.result in
    let p = has_parents (tree_of c.args.image.now) c.args.z in
    rw (← c.node_count.ensures.0)
    (any_from_yields_List p _ _ _ c.any.ensures.ran (YieldsList-from_range 0 n n refl (omega arith)) (λ x b q k. search (rules, tests)) ∙ some_in_range p n 0)
