-- A refusal writes nothing; a state writes its six numbers.
use native.Mathlib.Omega.{arith}
use lib.ListN.{length-set}
use Rattle.writer_model.specs.Exports.{state_numbers, state_after}
use Rattle.writer_exports.proofs.StateLaws.{six}
use Rattle.writer_exports.proofs.put_state.Goals as goal

pub returns-in_default : goal.returns-in_default
unfolding state_after
returns-in_default c = rw c.in_default.is

pub returns : goal.returns
unfolding state_after state_numbers
returns c = rw c.in-Ok.is (six _ _ _ _ _ _ _ c.requires)

pub bounds-state-1 : goal.bounds-state-1
bounds-state-1 c = simp length-set (omega arith)

pub bounds-state-2 : goal.bounds-state-2
bounds-state-2 c = simp length-set (omega arith)

pub bounds-state-3 : goal.bounds-state-3
bounds-state-3 c = simp length-set (omega arith)

pub bounds-state-4 : goal.bounds-state-4
bounds-state-4 c = simp length-set (omega arith)

pub bounds-state-5 : goal.bounds-state-5
bounds-state-5 c = simp length-set (omega arith)

pub shape_of-state : goal.shape_of-state
shape_of-state c = simp length-set
