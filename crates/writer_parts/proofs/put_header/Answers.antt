-- Eight words, one after the other.
use native.Mathlib.Omega.{arith}
use mathlib.Core.Path.{refl, ◌∙◌}
use Rattle.model.proofs.Overlays.{over_at_zero}
use Rattle.writer_parts.proofs.PartLaws.{room_sum, none, next}
use Rattle.writer_parts.proofs.put_header.Goals as goal

pub returns : goal.returns
returns c =
    let p1 = next _ 4 (none c.args.room.now 0) c.put_word.ensures refl (omega arith) in
    let p2 = next _ 4 p1 c.put_word-2.ensures refl (omega arith) in
    let p3 = next _ 4 p2 c.put_word-3.ensures refl (omega arith) in
    let p4 = next _ 4 p3 c.put_word-4.ensures refl (omega arith) in
    let p5 = next _ 4 p4 c.put_word-5.ensures refl (omega arith) in
    let p6 = next _ 4 p5 c.put_word-6.ensures refl (omega arith) in
    let p7 = next _ 4 p6 c.put_word-7.ensures refl (omega arith) in
    let p8 = next _ 4 p7 c.put_word-8.ensures refl (omega arith) in
    p8.is ∙ over_at_zero _ _

pub overflow_mul-words_at : goal.overflow_mul-words_at
overflow_mul-words_at c = omega (arith, room_sum _ _ _ _ c.requires.0)

pub overflow_add-words_at : goal.overflow_add-words_at
overflow_add-words_at c = omega (arith, room_sum _ _ _ _ c.requires.0)

pub overflow_mul-data_at : goal.overflow_mul-data_at
overflow_mul-data_at c = omega (arith, room_sum _ _ _ _ c.requires.0)

pub overflow_add-data_at : goal.overflow_add-data_at
overflow_add-data_at c = omega (arith, room_sum _ _ _ _ c.requires.0)

pub overflow_add-data_at-2 : goal.overflow_add-data_at-2
overflow_add-data_at-2 c = omega (arith, room_sum _ _ _ _ c.requires.0)
