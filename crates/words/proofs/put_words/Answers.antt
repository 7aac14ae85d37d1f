-- After k turns the words that are left, written after them, give the whole (`WordsLeft`).
use native.Mathlib.Omega.{arith}
use Rattle.words.proofs.Rows.{words_more, words-done}
use Rattle.words.proofs.put_words.Goals as goal

pub loop-k-preserved : goal.loop-k-preserved
loop-k-preserved c =
    let p = c.put_word in
    words_more c.loop-k.invariant (omega arith) (omega arith) p.ensures p.auto.out

pub returns : goal.returns
returns c = words-done c.loop-k.invariant (omega arith)
