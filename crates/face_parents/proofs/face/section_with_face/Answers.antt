-- The first node that brings the face, where the call found one.
use Rattle.std.proofs.Common.{◌≡◌, true, false, rules}
use Rattle.std.proofs.lemmas.Iterator.{first_from_Range}
use borrow.Author.Tests.{tests}
use Rattle.model.specs.Image.{tree_of}
use Rattle.model.specs.Elements.{has_face, section_with_face}
use Rattle.model.proofs.Found.{seek_found}
use Rattle.face_parents.proofs.face.section_with_face.Goals as goal

pub returns : goal.returns
unfolding section_with_face tree_of
returns c =
    let p = has_face (tree_of c.args.image.now) c.args.z c.args.f in
    rw c.node_count.ensures.0 at (seek_found p _ c.find.result
    (first_from_Range _ _ _ c.find.result (λ s. p s ≡ true) (λ s. p s ≡ false) c.find.ensures.ran (λ s q k. search (rules, tests)) (λ s q k. search (rules, tests))))
