-- After k turns the words that are left, written after them, give the whole (`WordsLeft`).
use Rattle.words.proofs.Rows.{WordsLeft}
use Rattle.words.proofs.put_words.Given as goal

abbrev pub invariant-loop-k : goal.invariant-loop-k
invariant-loop-k l = WordsLeft l.initial.out l.words l.at l.out l.k
