-- By the case of the answer.
use Rattle.model.specs.ReadList.{rule_of}
use Rattle.reads.proofs.rule_of.Goals as goal

pub returns-in-Ok : goal.returns-in-Ok
unfolding rule_of
returns-in-Ok c = rw c.in-Ok.is

pub returns-in-Err : goal.returns-in-Err
unfolding rule_of
returns-in-Err c = rw c.in-Err.is
