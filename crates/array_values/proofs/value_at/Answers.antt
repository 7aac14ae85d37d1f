-- The number of the value's bytes, as the data type says.
use borrow.Author.Rules.{sfits_of}
use mir.Syntax.{w64}
use mir.Facts.{to_z-of_z}
use mathlib.Core.Path.{refl, ◌∙◌}
use lib.Dec.{T}
use Rattle.model.specs.Image.{tree_of, widths}
use Rattle.words.specs.Width.{is_width}
use Rattle.array_values.proofs.Laws.{array_room, readable-wide, value-single, value-double, value-whole}
use Rattle.array_values.proofs.value_at.Goals as goal

pub number-requires : goal.number-requires
unfolding widths
number-requires c =
    let r = array_room _ c.requires.sound.0.0 c.args.i c.requires.sound.0.1 c.requires.sound.1.1 6 4 c.if-data_type-eq-R4.true refl c.args.k c.requires.k_bound in
    record { sound = c.requires.sound.0; t = (tt, r.0); wide_bound = r.1 }

pub returns-then-data_type-eq-R4 : goal.returns-then-data_type-eq-R4
returns-then-data_type-eq-R4 c =
    let v = value-single (tree_of c.args.image.now) c.args.i c.args.data_type c.requires.sound.1.1 c.args.k c.number.ensures.0
    c.if-data_type-eq-R4.true in
    (c.single_of.ensures.0 ∙ v, c.single_of.ensures.1)

pub number-requires-then-data_type-eq-R8 : goal.number-requires-then-data_type-eq-R8
unfolding widths
number-requires-then-data_type-eq-R8 c =
    let r = array_room _ c.requires.sound.0.0 c.args.i c.requires.sound.0.1 c.requires.sound.1.1 9 8 c.if-data_type-eq-R8.true refl c.args.k c.requires.k_bound in
    record { sound = c.requires.sound.0; t = (tt, r.0); wide_bound = r.1 }

pub returns-then-data_type-eq-R8 : goal.returns-then-data_type-eq-R8
returns-then-data_type-eq-R8 c =
    let v = value-double (tree_of c.args.image.now) c.args.i c.args.data_type c.requires.sound.1.1 c.args.k c.number-then-data_type-eq-R8.ensures.0
    c.if-data_type-eq-R8.true in
    (c.double_of.ensures.0 ∙ v, c.double_of.ensures.1)

pub width_of-wide-requires : goal.width_of-wide-requires
width_of-wide-requires c = (readable-wide c.args.data_type c.requires.sound.1.0).1

pub whole_at-requires : goal.whole_at-requires
whole_at-requires c =
    let d = c.args.data_type in
    let w = c.width_of-wide.ensures.0 in
    let t : T (is_width c.width_of-wide.result) = rw w (readable-wide d c.requires.sound.1.0).0 in
    let r = array_room _ c.requires.sound.0.0 c.args.i c.requires.sound.0.1 c.requires.sound.1.1 d _ refl w c.args.k c.requires.k_bound in
    record { sound = (c.requires.sound.0, (t, r.0)); wide_bound = r.1 }

pub returns : goal.returns
returns c =
    let v = value-whole (tree_of c.args.image.now) c.args.i c.args.data_type c.requires.sound.1.1 c.args.k c.whole_at.ensures
    c.if-data_type-eq-R4.false c.if-data_type-eq-R8.false in
    (rw (to_z-of_z (sfits_of {w = w64} {z = c.whole_at.result} c.whole_at.type_inv)) v, tt)
