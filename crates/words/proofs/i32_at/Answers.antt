-- The bits are those of the word.
use native.Mathlib.Omega.{arith}
use mathlib.Core.Path.{◌∙◌, ap, refl}
use borrow.Author.Rules.{sfits_of}
use mir.Syntax.{w32}
use mir.Facts.{to_z-of_z}
use Rattle.model.specs.Bytes.{half, signed}
use Rattle.words.proofs.Signed.{cast_is}
use Rattle.words.proofs.i32_at.Goals as goal

pub returns : goal.returns
unfolding half
returns c =
    to_z-of_z (sfits_of {w = w32} {z = c.cast_signed.result} c.cast_signed.type_inv) ∙ c.cast_signed.ensures
    ∙ cast_is w32 4 _ refl refl (omega arith) ∙ ap (signed 4) c.u32_at.ensures.0
