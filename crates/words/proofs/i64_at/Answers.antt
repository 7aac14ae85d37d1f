-- The bits are those of the word.
use native.Mathlib.Omega.{arith}
use mathlib.Core.Path.{◌∙◌, ap, refl}
use borrow.Author.Rules.{sfits_of}
use mir.Syntax.{w64}
use mir.Facts.{to_z-of_z}
use Rattle.model.specs.Bytes.{half, signed}
use Rattle.words.proofs.Signed.{cast_is}
use Rattle.words.proofs.i64_at.Goals as goal

pub returns : goal.returns
unfolding half
returns c =
    to_z-of_z (sfits_of {w = w64} {z = c.cast_signed.result} c.cast_signed.type_inv) ∙ c.cast_signed.ensures
    ∙ cast_is w64 8 _ refl refl (omega arith) ∙ ap (signed 8) c.u64_at.ensures
