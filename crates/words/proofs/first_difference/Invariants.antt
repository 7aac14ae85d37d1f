-- Word by word: what is left gives the place.
use Prim.Native.Nat.{◌*◌}
use Rattle.words.proofs.Difference.{Agree}
use Rattle.words.proofs.first_difference.Given as goal

abbrev pub invariant-loop-j : goal.invariant-loop-j
invariant-loop-j l = Agree 32 l.a l.p l.b l.q (8 * l.j)
