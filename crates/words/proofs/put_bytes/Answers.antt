-- What is left to write gives the whole (`Left`).
use native.Mathlib.Omega.{arith}
use Rattle.words.proofs.Writes.{start, bytes_more, done}
use Rattle.words.proofs.put_bytes.Goals as goal

pub loop-k-init : goal.loop-k-init
loop-k-init c = start _ _ _

pub bounds-out-at : goal.bounds-out-at
bounds-out-at c = omega (arith, c.loop-k.invariant.long)

pub loop-k-preserved : goal.loop-k-preserved
loop-k-preserved c = bytes_more c.loop-k.invariant (omega arith) (omega arith)

pub shape_of-out : goal.shape_of-out
shape_of-out c = c.loop-k.invariant.long

pub returns : goal.returns
returns c = done c.loop-k.invariant (omega arith)
