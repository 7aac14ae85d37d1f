-- The first node after i that is a section of the zone, where the call found one.
use Rattle.std.proofs.Common.{◌≡◌, true, false, rules, arith}
use Rattle.std.proofs.lemmas.Iterator.{first_from_Range}
use borrow.Author.Tests.{tests}
use Rattle.model.specs.Image.{tree_of}
use Rattle.model.specs.Containment.{section_of}
use Rattle.zone_sections.proofs.After.{found_after}
use Rattle.zone_sections.proofs.zones.section_after.Goals as goal

pub returns : goal.returns
returns c =
    let p = section_of (tree_of c.args.image.now) c.args.zone in
    found_after p _ _ c.find.result (omega arith)
    (rw c.node_count.ensures.0 at (first_from_Range _ _ _ c.find.result (λ j. p j ≡ true) (λ j. p j ≡ false) c.find.ensures.ran
    (λ j q k. search (rules, tests)) (λ j q k. search (rules, tests))))
