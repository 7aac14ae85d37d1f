-- Word by word: the words that are left decide.
use Prim.Native.Nat.{◌*◌}
use Rattle.words.proofs.Same.{Same}
use Rattle.writer_rules.proofs.names.has_name.Given as goal

abbrev pub invariant-loop-j : goal.invariant-loop-j
invariant-loop-j l = Same 32 l.room l.at l.name 0 (8 * l.j)
