-- Eight fields, one after the other.
use native.Mathlib.Omega.{arith}
use mathlib.Core.Path.{refl, ◌∙◌}
use Rattle.writer_parts.proofs.PartLaws.{none, next}
use Rattle.writer_parts.proofs.put_record.Goals as goal

pub overflow_add-at-8 : goal.overflow_add-at-8
overflow_add-at-8 c =
    omega (arith, c.requires.1, c.well_formed.0.0)

pub put_word-requires-5 : goal.put_word-requires-5
put_word-requires-5 c =
    let numbers = c.put_word-4.auto.out ∙ c.put_word-3.auto.out ∙ c.put_word-2.auto.out ∙ c.put_word.auto.out in
    let texts = c.put_bytes-3.auto.out ∙ c.put_bytes-2.auto.out ∙ c.put_bytes.auto.out in
    (omega arith, omega (arith, c.requires.1, numbers, texts))

pub returns : goal.returns
returns c =
    let p1 = next _ 32 (none c.args.room.now c.args.at) c.put_bytes.ensures c.requires.0.0 (omega arith) in
    let p2 = next _ 32 p1 c.put_bytes-2.ensures c.requires.0.1.0 (omega arith) in
    let p3 = next _ 2 p2 c.put_bytes-3.ensures c.requires.0.1.1 (omega arith) in
    let p4 = next _ 2 p3 c.put_word.ensures refl (omega arith) in
    let p5 = next _ 4 p4 c.put_word-2.ensures refl (omega arith) in
    let p6 = next _ 4 p5 c.put_word-3.ensures refl (omega arith) in
    let p7 = next _ 4 p6 c.put_word-4.ensures refl (omega arith) in
    let p8 = next _ 4 p7 c.put_word-5.ensures refl (omega arith) in
    p8.is
