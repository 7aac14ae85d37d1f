-- By the case of the answer: a number is written as its 64 bits, a rejection writes nothing.
use mathlib.Core.Path.{refl, ◌∙◌}
use borrow.Author.Rules.{sfits_of}
use mir.Syntax.{w64}
use mir.Facts.{to_z-of_z}
use Rattle.model.specs.ReadList.{rule_of}
use Rattle.model.specs.Exports.{number_bytes}
use Rattle.model.proofs.Overlays.{over_at_zero}
use Rattle.answers.proofs.put_corner.Goals as goal

pub returns-in-Ok : goal.returns-in-Ok
unfolding rule_of number_bytes
returns-in-Ok c =
    let bits = c.whole_bits.ensures in
    let is = c.in-Ok.is in
    rw is (refl, c.put_word.ensures ∙ over_at_zero _ _ ∙ rw bits (rw (to_z-of_z (sfits_of {w = w64} c.in-Ok.known_told-1-own.given.0.1))))

pub returns-in-Err : goal.returns-in-Err
unfolding rule_of number_bytes
returns-in-Err c = rw c.in-Err.is (refl, refl)
