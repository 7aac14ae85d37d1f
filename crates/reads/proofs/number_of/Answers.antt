-- By the case of the answer.
use borrow.Author.Rules.{rules, sfits_of}
use mir.Syntax.{w64}
use mir.Facts.{to_z-of_z}
use Rattle.model.specs.ReadList.{number_of}
use Rattle.reads.proofs.number_of.Goals as goal

pub returns-in-Ok : goal.returns-in-Ok
unfolding number_of
returns-in-Ok c = rw c.in-Ok.is (to_z-of_z (sfits_of {w = w64} (search rules)))

pub returns-in-Err : goal.returns-in-Err
unfolding number_of
returns-in-Err c = rw c.in-Err.is
