-- Each word is read in place.
use native.Mathlib.Omega.{arith}
use lib.ListN.{drop}
use Rattle.model.proofs.Reading.{le-take}
use Rattle.texts.specs.Keys.{text_sum}
use Rattle.texts.proofs.Laws.{word_of}
use Rattle.texts.proofs.keys.text_sum.Goals as goal

pub returns : goal.returns
unfolding text_sum
returns c =
    let a = c.args in
    let b = a.table.now in
    let p = a.at in (
      rw (
        le-take 8 32 (drop p b) (omega arith),
        word_of b p 8 (omega arith),
        word_of b p 16 (omega arith),
        word_of b p 24 (omega arith),
        c.u64_at-a.ensures,
        c.u64_at-b.ensures,
        c.u64_at-c.ensures,
        c.u64_at-d.ensures,
      ),
      omega arith,
    )
