-- The three numbers of a request are the read that is made.
use Rattle.model.specs.ReadList.{answer_at, request_at}
use Rattle.reads.proofs.answer_at.Goals as goal

pub returns : goal.returns
unfolding answer_at request_at
returns c = c.one_read.ensures.answers
