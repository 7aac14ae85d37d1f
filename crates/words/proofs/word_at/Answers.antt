-- From the last byte down, what is read is the number of the bytes from here on.
use native.Mathlib.Omega.{arith}
use Rattle.words.proofs.Laws.{none, room, front}
use Rattle.words.proofs.word_at.Goals as goal

pub loop-k-init : goal.loop-k-init
loop-k-init c = none _ _ _

pub overflow_mul-r : goal.overflow_mul-r
overflow_mul-r c = omega (arith, room _ c.loop-k.invariant.1 (omega arith))

pub overflow_add-r : goal.overflow_add-r
overflow_add-r c = omega (arith, room _ c.loop-k.invariant.1 (omega arith))

pub loop-k-preserved : goal.loop-k-preserved
loop-k-preserved c = front _ _ _ _ _ _ c.loop-k.invariant c.byte_at.ensures (omega arith) (omega arith)
