-- Each width's branch reads a signed number of that width, whose magnitude is that of its bits.
use mathlib.Core.Path.{◌∙◌, ap}
use borrow.Author.Rules.{sfits_of}
use lib.IntN.{nat_abs}
use mir.Syntax.{w32, w64}
use mir.Facts.{to_z-of_z}
use Rattle.model.specs.Corner.{number_at}
use Rattle.words.proofs.Signed.{eight, magnitude-is}
use Rattle.rows.proofs.Rows.{bits_bound}
use Rattle.rows.proofs.magnitude_at.Goals as goal

pub returns-then-width-eq4 : goal.returns-then-width-eq4
unfolding number_at
returns-then-width-eq4 c =
    rw (← magnitude-is _ _ (bits_bound c.requires.0 c.type_inv.image c.args.k), c.if-width-eq4.true)
    (c.from.ensures ∙ c.unsigned_abs.ensures.value ∙ ap nat_abs (to_z-of_z (sfits_of {w = w32} {z = c.i32_at.result} c.i32_at.type_inv) ∙ c.i32_at.ensures))

pub returns-else-width-eq4 : goal.returns-else-width-eq4
unfolding number_at
returns-else-width-eq4 c =
    rw (← magnitude-is _ _ (bits_bound c.requires.0 c.type_inv.image c.args.k), eight _ c.requires.0.wide c.if-width-eq4.false)
    (c.unsigned_abs-else-width-eq4.ensures.value ∙ ap nat_abs (to_z-of_z (sfits_of {w = w64} {z = c.i64_at.result} c.i64_at.type_inv) ∙ c.i64_at.ensures))
