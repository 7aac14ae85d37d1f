-- From the last byte down, what is read is the number of the bytes from here on.
use Rattle.words.proofs.Laws.{Tail}
use Rattle.words.proofs.word_at.Given as goal

abbrev pub invariant-loop-k : goal.invariant-loop-k
invariant-loop-k l = Tail l.s l.at l.width l.k l.r
