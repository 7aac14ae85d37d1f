-- What is left to write gives the whole (`Left`).
use lib.ListN.{drop}
use Rattle.words.proofs.Writes.{Left}
use Rattle.words.proofs.put_bytes.Given as goal

abbrev pub invariant-loop-k : goal.invariant-loop-k
invariant-loop-k l = Left l.initial.out l.s l.at l.out l.k (drop l.k l.s)
