-- How many of the bytes may not stand: none where the text is lawful.
use Rattle.std.proofs.Common.{◌≡◌, ◌+◌, ◌-◌, arith}
use Rattle.std.proofs.lemmas.List.{take_all}
use Rattle.texts.proofs.Laws.{none_bad}
use Rattle.texts.proofs.all_text_bytes.Goals as goal

pub returns : goal.returns
returns c =
    let at = c.args.at in
    let m : at + 32 - at ≡ 32 = omega arith in
    rw (c.loop-x.invariant.1, take_all c.loop-x.x-index _ c.loop-x-test.false, m) (none_bad _ _)
