-- The signed number at the value's place.
use borrow.Author.Rules.{sfits_of}
use mir.Syntax.{w64}
use mir.Facts.{to_z-of_z}
use Rattle.model.proofs.Reading.{number-at}
use Rattle.records.proofs.Places.{area_at_lem}
use Rattle.array_values.proofs.whole_at.Goals as goal

pub returns : goal.returns
returns c =
    let b = c.args.image.now in
    let w = c.requires.sound.1.1 in
    let n = number-at b c.args.i c.args.k (rw (← w) c.requires.wide_bound) in
    let r = area_at_lem b in
    rw (to_z-of_z (sfits_of {w = w64} {z = c.signed_at.result} c.signed_at.type_inv)) cc
